-- Runs of any length.
use Rattle.std.proofs.Common.{◌≡◌, ◌∙◌, ◌≢◌, ◌⊎◌, inl, inr, ℕ, zero, suc, ◌+◌, ◌%◌, ◌≤◌, refl, sym, ap, subst, arith, ne_eqb, [], Some}
use Rattle.std.specs.Prelude.{option_and_then}
use Rattle.std.proofs.lemmas.Bool.{cases_eq}
use Rattle.rv_machine_spec.specs.Machine.{Machine, read_register}
use Rattle.rv_machine_spec.specs.Step as machine
use Rattle.rv_machine_spec.proofs.Steps.{after_zero, after_step, after_stopped}
use Rattle.elf_read_spec.specs.Image.{Image, size_at}
use Rattle.code_reach_spec.specs.Code.{InRange, itself}
use Rattle.code_reach_spec.specs.Faults.{ReachesNoFault}
use Rattle.term_core_spec.specs.Value.{Assignment}
use Rattle.graph_core_spec.specs.Graph.{Graphs}
use Rattle.graph_core_spec.specs.Run.{State, Running, Returned, Failed, leave, step, system_of}
use Rattle.graph_core_spec.specs.TransitionSystem.{TransitionSystem, after}
use Rattle.graph_core_spec.proofs.Runs.{after-add, still}
use Rattle.decompile_spec.specs.State.{Alike}
use Rattle.decompile_spec.specs.Blocks.{Entrance}
use Rattle.decompile_laws.specs.Together.{Numbering, AreCodeGraphs, at_entrance, nobody, Corresponds, corresponds, at_tail_landing, at_home, IsReturning, all_returned, at_landing_node, IsSound, IsOutside, IsOver, returned, failed, CorrespondsAfter, StepTogether, ReturnTogether, StartAlike}
use Rattle.decompile_laws.proofs.Steps.{IsAmong, Goes_on, Acts, Moves, fails, goes_on, returns, stops, acts, waits, clean, tail_lands}
use Rattle.decompile_laws.proofs.RunUpsOf.{outside_at_entry}
use Rattle.decompile_laws.proofs.Leading.{Comes, has_acted, has_come_home, Proceeds, leads, moves}

module _ (image : Image) (entry : ℕ) (n : Numbering) (graphs : Graphs) (home : ℕ) (no_fault : ReachesNoFault image entry) (whole : AreCodeGraphs image entry n graphs) where
  abbrev w : TransitionSystem State
  w = system_of graphs (n.graph_number entry)

  -- ---- what is over stays

  over_still : (s : State) → IsOver s → step graphs s ≡ s
  unfolding step
  over_still _ (returned values) = refl
  over_still _ failed = refl

  pub over_stays : (s : State) → IsOver s → (k : ℕ) → after w k s ≡ s
  over_stays s over k = still w s (over_still s over) k

  over_after : (j k : ℕ) (s : State) → IsOver (after w j s) → IsOver (after w (j + k) s)
  over_after j k s over = subst IsOver (sym (after-add w j k s ∙ over_stays (after w j s) over k)) over

  -- what only returns goes on to have returned
  comes_to_return : (s : State) → IsReturning image entry n s → (j : ℕ) × (values : Assignment) × (after w j s ≡ Returned values)
  unfolding after
  comes_to_return _ (all_returned values) = (0, values, refl)
  comes_to_return _ (at_landing_node graph node values below lands rest) =
      let found = comes_to_return (leave values below) rest in
      (suc found.0, found.1, ap (after w found.0) (tail_lands image entry n graphs home no_fault whole graph node values below lands) ∙ found.2)

  returning_still : (s : State) → IsReturning image entry n s → IsReturning image entry n (step graphs s)
  unfolding step
  returning_still _ (all_returned values) = all_returned values
  returning_still _ (at_landing_node graph node values below lands rest) =
      subst (IsReturning image entry n) (sym (tail_lands image entry n graphs home no_fault whole graph node values below lands)) rest

  returning_after : (t : ℕ) (s : State) → IsReturning image entry n s → IsReturning image entry n (after w t s)
  unfolding after
  returning_after zero s is = is
  returning_after (suc t) s is = returning_after t (step graphs s) (returning_still s is)

  -- ---- the machine's runs

  elsewhere : (stop : ℕ) → IsOutside image entry stop → (m : Machine) → IsAmong image entry m.pc → m.pc ≢ stop
  elsewhere stop outside m among e = outside among.function among.size among.reached among.sized (subst (InRange among.function among.size) e among.inside)

  pub machine_step : (m then : Machine) (stop k : ℕ) → IsOutside image entry stop → IsAmong image entry m.pc → machine.step m ≡ Some then
      → machine.after m stop (suc k) ≡ machine.after then stop k
  machine_step m then stop k outside among does =
      after_step m stop k (ne_eqb m.pc stop (elsewhere stop outside m among)) ∙ ap (option_and_then (λ (x : Machine). machine.after x stop k)) does

  -- the machine after k steps, corresponding to a state
  pub record StartsAt (m : Machine) (stop k : ℕ) (s : State) : Type 0 where
    pub now : Machine
    pub now_is : machine.after m stop k ≡ Some now
    pub sound : IsSound image now
    pub begun : ℕ
    pub alike : Corresponds image entry n home now begun s

  abbrev pub at_once : (m : Machine) (stop begun : ℕ) (s : State) → IsSound image m → Corresponds image entry n home m begun s → StartsAt m stop 0 s
  at_once m stop begun s ok alike = record { now = m; now_is = after_zero m stop; sound = ok; begun = begun; alike = alike }

  abbrev pub one_later : (m : Machine) (stop k : ℕ) (s t : State) → IsOutside image entry stop → (on : Goes_on image entry n home m t) → StartsAt on.then stop k s → StartsAt m stop (suc k) s
  one_later m stop k s t outside on starts = record {
    now = starts.now;
    now_is = machine_step m on.then stop k outside on.among on.does ∙ starts.now_is;
    sound = starts.sound;
    begun = starts.begun;
    alike = starts.alike;
  }

  -- ---- however many steps the machine goes

  Led : (stop k : ℕ) (m : Machine) (s : State) → Type 0
  Led stop k m s = (t : ℕ) × (k ≤ t) × (IsOver (after w t s) ⊎ StartsAt m stop k (after w t s))

  led : (stop : ℕ) → IsOutside image entry stop → (k : ℕ) (m : Machine) (begun : ℕ) (s : State) → IsSound image m → Corresponds image entry n home m begun s → Led stop k m s
  unfolding Led after
  led stop outside zero m begun s ok alike = (0, omega arith, inr (at_once m stop begun s ok alike))
  led stop outside (suc k) m begun s ok alike = on_by (leads image entry n graphs home no_fault whole m begun s ok alike) (λ then t sound correspondence. led stop outside k then 0 t sound correspondence)
    where
      ended : (j : ℕ) → 1 ≤ j → IsOver (after w j s) → Led stop (suc k) m s
      ended j some over = (j + k, omega arith, inl (over_after j k s over))

      by : (j : ℕ) → 1 ≤ j → (x : State) → after w j s ≡ x → Comes image entry n home m x
          → ((then : Machine) (t : State) → IsSound image then → Corresponds image entry n home then 0 t → Led stop k then t) → Led stop (suc k) m s
      by j some _ e (has_acted _ fails) rest = ended j some (subst IsOver (sym e) failed)
      by j some _ e (has_acted _ (goes_on t on)) rest =
          let next = rest on.then t on.sound on.correspondence in
          let there : after w (j + next.0) s ≡ after w next.0 t = after-add w j next.0 s ∙ ap (λ (x : State). after w next.0 x) e in (
            j + next.0,
            omega (arith, next.1),
            elim next.2 [
              | inl over ↦ inl (subst IsOver (sym there) over)
              | inr starts ↦ inr (subst (StartsAt m stop (suc k)) (sym there) (one_later m stop k _ t outside on starts))
            ],
          )
      by j some x e (has_acted _ (returns _ among returning goes)) rest =
          let found = comes_to_return x returning in
          let there : after w (j + found.0) s ≡ Returned found.1 = after-add w j found.0 s ∙ ap (after w found.0) e ∙ found.2 in
          ended (j + found.0) (omega (arith, some)) (subst IsOver (sym there) (returned found.1))
      by j some _ e (has_come_home values there alike_there) rest = ended j some (subst IsOver (sym e) (returned values))

      on_by : Proceeds image entry n graphs home m s
          → ((then : Machine) (t : State) → IsSound image then → Corresponds image entry n home then 0 t → Led stop k then t) → Led stop (suc k) m s
      on_by lead rest = by lead.count lead.some (after w lead.count s) refl lead.comes rest

  -- ---- however many steps the graphs go

  Follows : (stop t : ℕ) (m : Machine) (s : State) → Type 0
  Follows stop t m s = (k : ℕ) × (k ≤ t) × StartsAt m stop k (after w t s)

  Followed : (stop t : ℕ) (m : Machine) (s : State) → Type 0
  Followed stop t m s = (after w t s ≡ Failed) ⊎ ((home % 4 ≢ 0) × IsReturning image entry n (after w t s)) ⊎ Follows stop t m s

  followed : (stop : ℕ) → IsOutside image entry stop → (t : ℕ) (m : Machine) (begun : ℕ) (s : State) → IsSound image m → Corresponds image entry n home m begun s → Followed stop t m s
  unfolding Followed Follows after
  followed stop outside zero m begun s ok alike = inr (inr (0, omega arith, at_once m stop begun s ok alike))
  followed stop outside (suc t) m begun s ok alike =
      by _ (step graphs s) refl (moves image entry n graphs home no_fault whole m begun s ok alike)
      (λ then now_begun x sound correspondence. followed stop outside t then now_begun x sound correspondence)
    where
      -- by a step of the run alone
      waited : (x : State) → step graphs s ≡ x → Followed stop t m x → Followed stop (suc t) m s
      waited x e (inl failed_there) = inl (ap (after w t) e ∙ failed_there)
      waited x e (inr (inl returning)) = inr (inl (returning.0, subst (λ (y : State). IsReturning image entry n (after w t y)) (sym e) returning.1))
      waited x e (inr (inr found)) = inr (inr (found.0, omega (arith, found.1), subst (λ (y : State). StartsAt m stop found.0 (after w t y)) (sym e) found.2))

      -- by a step of both
      went : (x : State) → step graphs s ≡ x → (on : Goes_on image entry n home m x) → Followed stop t on.then x → Followed stop (suc t) m s
      went x e on (inl failed_there) = inl (ap (after w t) e ∙ failed_there)
      went x e on (inr (inl returning)) = inr (inl (returning.0, subst (λ (y : State). IsReturning image entry n (after w t y)) (sym e) returning.1))
      went x e on (inr (inr found)) = inr (inr (
        suc found.0,
        omega (arith, found.1),
        subst (λ (y : State). StartsAt m stop (suc found.0) (after w t y)) (sym e) (one_later m stop found.0 _ x outside on found.2),
      ))

      acted : (x : State) → step graphs s ≡ x → Acts image entry n home m x
          → ((then : Machine) (now_begun : ℕ) (y : State) → IsSound image then → Corresponds image entry n home then now_begun y → Followed stop t then y) → Followed stop (suc t) m s
      acted _ e fails rest = inl (ap (after w t) e ∙ over_stays Failed failed t)
      acted _ e (goes_on x on) rest = went x e on (rest on.then 0 x on.sound on.correspondence)
      acted _ e (returns x among returning goes) rest = elim (cases_eq (home % 4) 0) [
        | inl even ↦ went x e (goes even) (rest (goes even).then 0 x (goes even).sound (goes even).correspondence)
        | inr odd ↦ inr (inl (odd, subst (λ (y : State). IsReturning image entry n (after w t y)) (sym e) (returning_after t x returning)))
      ]

      by : (count : ℕ) (x : State) → step graphs s ≡ x → Moves image entry n home m count x
          → ((then : Machine) (now_begun : ℕ) (y : State) → IsSound image then → Corresponds image entry n home then now_begun y → Followed stop t then y) → Followed stop (suc t) m s
      by _ _ e (stops count) rest = inl (ap (after w t) e ∙ over_stays Failed failed t)
      by _ _ e (waits now_begun x correspondence) rest = waited x e (rest m now_begun x ok correspondence)
      by _ _ e (acts x act_is) rest = acted x e act_is rest

  -- ---- home: the machine's return address, a multiple of 4 outside of all that is reached

  module _ (even : home % 4 ≡ 0) (outside : IsOutside image entry home) where
    -- the machine has come home
    record AtHome (m : Machine) (k : ℕ) (values : Assignment) : Type 0 where
      final : Machine
      final_is : machine.after m home k ≡ Some final
      there : final.pc ≡ home
      sound : IsSound image final
      alike : Alike final values

    -- the machine that corresponds to a run that has returned
    pub is_home : (m : Machine) (begun : ℕ) (s : State) (values : Assignment) → s ≡ Returned values → Corresponds image entry n home m begun s
        → (m.pc ≡ home) × Alike m values × (begun ≡ 0)
    is_home m _ _ values e (corresponds function size node begun back others below reached sized at in_run_ups alike began waiting) = absurd (cc)
    is_home m _ _ values e (at_tail_landing graph node others below lands alike rest) = absurd (cc)
    is_home m _ _ values e (at_home others there alike) =
        let same : others ≡ values = cc in
        (there, subst (Alike m) same alike, refl)

    -- where the graphs return, the machine has come home
    graphs_first : (t : ℕ) (m : Machine) (begun : ℕ) (s : State) (final : Assignment) → IsSound image m → Corresponds image entry n home m begun s → after w t s ≡ Returned final
        → (k : ℕ) × (k ≤ t) × AtHome m k final
    unfolding Followed Follows
    graphs_first t m begun s final ok alike e = by (followed home outside t m begun s ok alike)
      where
        not_both : Failed ≡ Returned final → ⊥
        not_both f = absurd (cc)

        by : Followed home t m s → (k : ℕ) × (k ≤ t) × AtHome m k final
        by (inl failed_there) = absurd (not_both (sym failed_there ∙ e))
        by (inr (inl returning)) = absurd (returning.0 even)
        by (inr (inr found)) =
            let back = is_home found.2.now found.2.begun (after w t s) final e found.2.alike in
            (found.0, found.1, record { final = found.2.now; final_is = found.2.now_is; there = back.0; sound = found.2.sound; alike = back.1 })

    Fails : State → Type 0
    Fails s = (t : ℕ) × (after w t s ≡ Failed)

    later : (j : ℕ) (s x : State) → after w j s ≡ x → Fails x → Fails s
    unfolding Fails
    later j s x e (t, is) = (j + t, after-add w j t s ∙ ap (after w t) e ∙ is)

    -- unless the graphs fail, the machine is there after every number of steps
    Safe : (k : ℕ) (m : Machine) (s : State) → Type 0
    Safe k m s = ((now : Machine) × (machine.after m home k ≡ Some now) × IsSound image now) ⊎ Fails s

    safe : (k : ℕ) (m : Machine) (begun : ℕ) (s : State) → IsSound image m → Corresponds image entry n home m begun s → Safe k m s
    unfolding Safe Fails
    safe zero m begun s ok alike = inl (m, after_zero m home, ok)
    safe (suc k) m begun s ok alike = on_by (leads image entry n graphs home no_fault whole m begun s ok alike) (λ then t sound correspondence. safe k then 0 t sound correspondence)
      where
        went : (j : ℕ) (x : State) → after w j s ≡ x → (on : Goes_on image entry n home m x) → Safe k on.then x → Safe (suc k) m s
        went j x e on (inl there) = inl (there.0, machine_step m on.then home k outside on.among on.does ∙ there.1, there.2)
        went j x e on (inr none) = inr (later j s x e none)

        by : (j : ℕ) (x : State) → after w j s ≡ x → Comes image entry n home m x
            → ((then : Machine) (t : State) → IsSound image then → Corresponds image entry n home then 0 t → Safe k then t) → Safe (suc k) m s
        by j _ e (has_acted _ fails) rest = inr (j, e)
        by j _ e (has_acted _ (goes_on x on)) rest = went j x e on (rest on.then x on.sound on.correspondence)
        by j _ e (has_acted _ (returns x among returning goes)) rest = went j x e (goes even) (rest (goes even).then x (goes even).sound (goes even).correspondence)
        by j _ e (has_come_home values there alike_there) rest = inl (m, after_stopped m home (suc k) there, ok)

        on_by : Proceeds image entry n graphs home m s → ((then : Machine) (t : State) → IsSound image then → Corresponds image entry n home then 0 t → Safe k then t) → Safe (suc k) m s
        on_by lead rest = by lead.count (after w lead.count s) refl lead.comes rest

    -- where the machine has come home, the graphs have returned or fail
    Returns_or_fails : (final : Machine) (s : State) → Type 0
    Returns_or_fails final s = ((t : ℕ) × (values : Assignment) × (after w t s ≡ Returned values) × Alike final values) ⊎ Fails s

    machine_first : (k : ℕ) (m final : Machine) (begun : ℕ) (s : State) → IsSound image m → Corresponds image entry n home m begun s → machine.after m home k ≡ Some final → final.pc ≡ home
        → Returns_or_fails final s
    unfolding Returns_or_fails Fails
    machine_first zero m final begun s ok alike is there = on_by (leads image entry n graphs home no_fault whole m begun s ok alike)
      where
        once : Some m ≡ Some final → m ≡ final
        once e = cc

        here : m.pc ≡ home
        here = let same : m ≡ final = once (sym (after_zero m home) ∙ is) in ap (λ (x : Machine). x.pc) same ∙ there

        by : (j : ℕ) (x : State) → after w j s ≡ x → Comes image entry n home m x → Returns_or_fails final s
        by j _ e (has_acted _ fails) = inr (j, e)
        by j _ e (has_acted _ (goes_on x on)) = absurd (elsewhere home outside m on.among here)
        by j _ e (has_acted _ (returns x among returning goes)) = absurd (elsewhere home outside m among here)
        by j _ e (has_come_home values there_too alike_there) =
            let same : m ≡ final = once (sym (after_zero m home) ∙ is) in
            inl (j, values, e, subst (λ (x : Machine). Alike x values) same alike_there)

        on_by : Proceeds image entry n graphs home m s → Returns_or_fails final s
        on_by lead = by lead.count (after w lead.count s) refl lead.comes
    machine_first (suc k) m final begun s ok alike is there =
        on_by (leads image entry n graphs home no_fault whole m begun s ok alike) (λ then t sound correspondence has. machine_first k then final 0 t sound correspondence has there)
      where
        went : (j : ℕ) (x : State) → after w j s ≡ x → Returns_or_fails final x → Returns_or_fails final s
        went j x e (inl back) = inl (j + back.0, back.1, after-add w j back.0 s ∙ ap (after w back.0) e ∙ back.2, back.3)
        went j x e (inr none) = inr (later j s x e none)

        by : (j : ℕ) (x : State) → after w j s ≡ x → Comes image entry n home m x
            → ((then : Machine) (t : State) → IsSound image then → Corresponds image entry n home then 0 t → machine.after then home k ≡ Some final → Returns_or_fails final t) → Returns_or_fails final s
        by j _ e (has_acted _ fails) rest = inr (j, e)
        by j _ e (has_acted _ (goes_on x on)) rest = went j x e (rest on.then x on.sound on.correspondence (sym (machine_step m on.then home k outside on.among on.does) ∙ is))
        by j _ e (has_acted _ (returns x among returning goes)) rest =
            went j x e (rest (goes even).then x (goes even).sound (goes even).correspondence
            (sym (machine_step m (goes even).then home k outside (goes even).among (goes even).does) ∙ is))
        by j _ e (has_come_home values there_too alike_there) rest =
            let same : Some m ≡ Some final = sym (after_stopped m home (suc k) there_too) ∙ is in
            let one : m ≡ final = cc in
            inl (j, values, e, subst (λ (x : Machine). Alike x values) one alike_there)

        on_by : Proceeds image entry n graphs home m s
            → ((then : Machine) (t : State) → IsSound image then → Corresponds image entry n home then 0 t → machine.after then home k ≡ Some final → Returns_or_fails final t) → Returns_or_fails final s
        on_by lead rest = by lead.count (after w lead.count s) refl lead.comes rest

-- ---- from the start on

module _ (image : Image) (entry size : ℕ) (n : Numbering) (graphs : Graphs) (m : Machine) (values : Assignment) (sized : size_at image entry ≡ Some size)
    (no_fault : ReachesNoFault image entry) (whole : AreCodeGraphs image entry n graphs) (start : StartAlike image entry m values) where
  abbrev first : State
  first = Running (n.graph_number entry) (n.node_number entry Entrance) values []

  pub begins : Corresponds image entry n (read_register m 1) m 0 first
  begins = corresponds entry size (n.node_number entry Entrance) 0 (read_register m 1) values [] itself sized (at_entrance start.at_entry)
      (outside_at_entry image entry size (clean image entry n graphs (read_register m 1) no_fault whole entry size itself sized) m values start.at_entry)
      start.alike start.began nobody

  corresponds_after : (stop k : ℕ) (s : State) → StartsAt image entry n graphs (read_register m 1) no_fault whole m stop k s → CorrespondsAfter image entry n m stop k s
  corresponds_after stop k s starts = record { now = starts.now; now_is = starts.now_is; sound = starts.sound; begun = starts.begun; alike = starts.alike }

  pub step_together : (stop : ℕ) → IsOutside image entry stop → StepTogether image entry n graphs m values stop
  unfolding Led Followed Follows
  step_together stop outside = record {
    machine_leads = λ k.
        let found = led image entry n graphs (read_register m 1) no_fault whole stop outside k m 0 first start.sound begins in
        (found.0, found.1, elim found.2 [ inl over ↦ inl over | inr starts ↦ inr (corresponds_after stop k _ starts) ]);
    graphs_lead = λ t. elim (followed image entry n graphs (read_register m 1) no_fault whole stop outside t m 0 first start.sound begins) [
      | inl over ↦ inl over
      | inr more ↦ elim more [
        | inl returning ↦ inr (inl returning)
        | inr found ↦ inr (inr (found.0, found.1, corresponds_after stop found.0 _ found.2))
      ]
    ];
  }

  pub return_together : read_register m 1 % 4 ≡ 0 → IsOutside image entry (read_register m 1) → ReturnTogether image entry n graphs m values
  unfolding Safe Fails Returns_or_fails
  return_together even outside = record {
    safe = λ k. safe image entry n graphs (read_register m 1) no_fault whole even outside k m 0 first start.sound begins;
    graphs_return = λ t final e.
        let found = graphs_first image entry n graphs (read_register m 1) no_fault whole even outside t m 0 first final start.sound begins e in
        (found.0, found.1, record { final = found.2.final; final_is = found.2.final_is; home = found.2.there; sound = found.2.sound; alike = found.2.alike });
    machine_returns = λ k final is there. machine_first image entry n graphs (read_register m 1) no_fault whole even outside k m final 0 first start.sound begins is there;
  }
