-- Builds one after the other: what each gives makes what the whole gives.
use Rattle.std.proofs.Common.{◌≡◌, ◌+◌, ◌++◌, ℕ, List, [], ◌∷◌, Result, refl, ap, sym, ◌∙◌, subst}
use Rattle.std.specs.Result.{IfOk}
use Rattle.std.proofs.lemmas.Result.{IfOk-weaker}
use Rattle.std.proofs.lemmas.List.{append-nil, append_assoc}
use Rattle.clause_check_spec.specs.Clause.{Clause, Cnf}
use Rattle.bit_blast_spec.specs.Gates.{Gate, gate_clauses, next, last_of, literal_of, clauses_from, Build, give, ◌>>=◌, claims, claim}
use Rattle.bit_blast_circuits.specs.Built.{with_gates, IsBuilt, Continues}

-- ---- gates after gates

pub last_of-append : (last : ℕ) (gates more : List Gate) → last_of last (gates ++ more) ≡ last_of (last_of last gates) more
last_of-append last [] more = refl
last_of-append last (gate ∷ gates) more = last_of-append (next last gate) gates more

pub clauses_from-append : (last : ℕ) (gates more : List Gate)
    → clauses_from last (gates ++ more) ≡ clauses_from last gates ++ clauses_from (last_of last gates) more
clauses_from-append last [] more = refl
clauses_from-append last (gate ∷ gates) more =
    ap (λ clauses. gate_clauses (literal_of (last + 1)) gate ++ clauses) (clauses_from-append (next last gate) gates more)
    ∙ sym (append_assoc (gate_clauses (literal_of (last + 1)) gate) (clauses_from (next last gate) gates) (clauses_from (last_of (next last gate) gates) more))

abbrev pub clauses_over : ℕ → List Clause → Cnf
clauses_over variables clauses = record { variables = variables; clauses = clauses }

pub same_clauses : (v w : ℕ) (cs ds : List Clause) → v ≡ w → cs ≡ ds → clauses_over v cs ≡ clauses_over w ds
same_clauses v w cs ds e f = ap (λ n. clauses_over n cs) e ∙ ap (clauses_over w) f

pub gates_after : (cnf : Cnf) (gates more : List Gate) → with_gates (with_gates cnf gates) more ≡ with_gates cnf (gates ++ more)
gates_after cnf gates more =
    same_clauses (last_of (last_of cnf.variables gates) more) (last_of cnf.variables (gates ++ more))
    ((cnf.clauses ++ clauses_from cnf.variables gates) ++ clauses_from (last_of cnf.variables gates) more) (cnf.clauses ++ clauses_from cnf.variables (gates ++ more))
    (sym (last_of-append cnf.variables gates more))
    (append_assoc cnf.clauses (clauses_from cnf.variables gates) (clauses_from (last_of cnf.variables gates) more)
    ∙ ap (λ clauses. cnf.clauses ++ clauses) (sym (clauses_from-append cnf.variables gates more)))

pub no_gates_after : (cnf : Cnf) → with_gates cnf [] ≡ cnf
no_gates_after cnf = ap (clauses_over cnf.variables) (append-nil cnf.clauses)

-- ---- builds

pub give_gives : {A : Type 0} (x : A) (old : Cnf) → IsBuilt (give x) old x old
give_gives x old = record { answer = refl; grown = sym (no_gates_after old) }

then_made : {A B : Type 0} (build : Build A) (more : A → Build B) (old new : Cnf) (b : B)
    → IsBuilt (more (build old.variables).out) (with_gates old (build old.variables).gates) b new → IsBuilt (build >>= more) old b new
then_made build more old new b second = record {
  answer = second.answer;
  grown = second.grown
      ∙ gates_after old (build old.variables).gates
      (more (build old.variables).out (last_of old.variables (build old.variables).gates)).gates;
}

-- first the one, then what follows from its answer
pub then_gives : {A B : Type 0} {build : Build A} {old mid new : Cnf} {a : A} {b : B} (more : A → Build B)
    → IsBuilt build old a mid → IsBuilt (more a) mid b new → IsBuilt (build >>= more) old b new
then_gives {build = build} {old = old} {mid = mid} {new = new} {a = a} {b = b} more first second =
    then_made build more old new b
    (subst (λ m. IsBuilt (more (build old.variables).out) m b new) first.grown
    (subst (λ x. IsBuilt (more x) mid b new) first.answer second))

-- what comes after the first
then_left : {A B : Type 0} (build : Build A) (more : A → Build B) (old new : Cnf) (b : B)
    → IsBuilt (build >>= more) old b new → IsBuilt (more (build old.variables).out) (with_gates old (build old.variables).gates) b new
then_left build more old new b made = record {
  answer = made.answer;
  grown = made.grown
      ∙ sym (gates_after old (build old.variables).gates
      (more (build old.variables).out (last_of old.variables (build old.variables).gates)).gates);
}

-- two builds as one
pub gives_grouped : {A B C : Type 0} (build : Build A) (more : A → Build B) (rest : B → Build C) (old new : Cnf) (c : C)
    → IsBuilt ((build >>= more) >>= rest) old c new → IsBuilt (build >>= λ a. more a >>= rest) old c new
gives_grouped build more rest old new c made =
    let first = build old.variables in
    let second = more first.out (last_of old.variables first.gates) in
    let same = last_of-append old.variables first.gates second.gates in
    record {
      answer = made.answer ∙ ap (λ last. (rest second.out last).out) same;
      grown = made.grown
          ∙ ap (with_gates old) (append_assoc first.gates second.gates (rest second.out (last_of old.variables (first.gates ++ second.gates))).gates
          ∙ ap (λ last. first.gates ++ (second.gates ++ (rest second.out last).gates)) same);
    }

-- three builds as one
pub gives_three : {A B C D : Type 0} (build : Build A) (more : A → Build B) (last : B → Build C) (rest : C → Build D) (old new : Cnf) (d : D)
    → IsBuilt ((build >>= λ a. more a >>= last) >>= rest) old d new → IsBuilt (build >>= λ a. more a >>= λ b. last b >>= rest) old d new
gives_three build more last rest old new d made =
    let first = build old.variables in
    let mid = with_gates old first.gates in
    then_made build (λ a. more a >>= λ b. last b >>= rest) old new d
    (gives_grouped (more first.out) last rest mid new d
    (then_left build (λ a. (more a >>= last) >>= rest) old new d
    (gives_grouped build (λ a. more a >>= last) rest old new d made)))

-- some clauses and then others
pub claims_gates : (cs ds : List Clause) → claims (cs ++ ds) ≡ claims cs ++ claims ds
claims_gates [] ds = refl
claims_gates (c ∷ cs) ds = ap (λ gates. claims (c ∷ []) ++ gates) (claims_gates cs ds)

pub claims_more : {old mid new : Cnf} (cs ds : List Clause) → IsBuilt (claim cs) old tt mid → IsBuilt (claim ds) mid tt new → IsBuilt (claim (cs ++ ds)) old tt new
claims_more {old = old} {mid = mid} {new = new} cs ds first second = record {
  answer = refl;
  grown = second.grown ∙ ap (λ m. with_gates m (claims ds)) first.grown ∙ gates_after old (claims cs) (claims ds)
      ∙ ap (with_gates old) (sym (claims_gates cs ds));
}

-- ---- a build that has begun

pub continues_start : {A : Type 0} (build : Build A) (old : Cnf) → Continues build old old build (λ a. a)
continues_start build old = record { ends = λ b end rest. rest }

-- the next one is done
pub continues_then : {A B C : Type 0} {whole : Build A} {old now mid : Cnf} {build : Build B} {b : B} {join : C → A} (more : B → Build C)
    → Continues whole old now (build >>= more) join → IsBuilt build now b mid → Continues whole old mid (more b) join
continues_then more on first = record { ends = λ c end rest. on.ends c end (then_gives more first rest) }

-- what is done with the answer is left
pub continues_give : {A B C : Type 0} {whole : Build A} {old now : Cnf} {build : Build B} {join : C → A} (f : B → C)
    → Continues whole old now (build >>= λ b. give (f b)) join → Continues whole old now build (λ b. join (f b))
continues_give f on = record { ends = λ b end rest. on.ends (f b) end (then_gives (λ b. give (f b)) rest (give_gives (f b) end)) }

pub continues_join : {A B : Type 0} {whole : Build A} {old now : Cnf} {rest : Build B} (join other : B → A)
    → ((b : B) → join b ≡ other b) → Continues whole old now rest join → Continues whole old now rest other
continues_join {whole = whole} {old = old} join other same on = record {
  ends = λ b end rest. subst (λ a. IsBuilt whole old a end) (same b) (on.ends b end rest);
}

-- nothing is left
pub continues_end : {A B : Type 0} {whole : Build A} {old now : Cnf} {join : B → A} (x : B) → Continues whole old now (give x) join → IsBuilt whole old (join x) now
continues_end {now = now} x on = on.ends x now (give_gives x now)

-- ---- a last call whose answer is handed on

pub then_ok : {T E A B : Type 0} {build : Build A} {old mid : Cnf} {a : A} (new : Cnf) (r : Result T E) (seen : T → B) (more : A → Build B)
    → IsBuilt build old a mid → IfOk r (λ t. IsBuilt (more a) mid (seen t) new) → IfOk r (λ t. IsBuilt (build >>= more) old (seen t) new)
then_ok {build = build} {old = old} {mid = mid} {a = a} new r seen more first last =
    IfOk-weaker r (λ t. IsBuilt (more a) mid (seen t) new) (λ t. IsBuilt (build >>= more) old (seen t) new) (λ t second. then_gives more first second) last

-- the same of a build that is equal
pub same_ok : {T E B : Type 0} (old new : Cnf) (r : Result T E) (seen : T → B) (build other : Build B) → build ≡ other
    → IfOk r (λ t. IsBuilt build old (seen t) new) → IfOk r (λ t. IsBuilt other old (seen t) new)
same_ok old new r seen build other same last = subst (λ b. IfOk r (λ t. IsBuilt b old (seen t) new)) same last

pub same_gives : {B : Type 0} {old new : Cnf} {b : B} (build other : Build B) → build ≡ other → IsBuilt build old b new → IsBuilt other old b new
same_gives {old = old} {new = new} {b = b} build other same made = subst (λ each. IsBuilt each old b new) same made
