use Rattle.std.proofs.Common.{ap, refl, arith}
use Rattle.tv_core.specs.Decisions.{text_in}
use Rattle.tv_core.proofs.Stored.{leaves_text, leaves_partly, leaves_nothing, leaves_nothing_partly}
use Rattle.tv_core.proofs.publish.store_certificate.Goals as goal

pub returns-in-Some : goal.returns-in-Some
returns-in-Some g c =
    let e = ap text_in c.in-Some.is in
    let h = c.store_text.ensures in
    record {
      ok = leaves_text _ _ _ _ _ _ c.store_text.result e c.as_slice.ensures.value h;
      part = leaves_partly _ _ _ _ _ _ c.store_text.result e c.as_slice.ensures.value h;
      cause = h.cause;
      unfailing = h.unfailing;
      no_memory = h.no_memory;
    }

pub returns-in-None : goal.returns-in-None
returns-in-None g c =
    let e = ap text_in c.in-None.is in
    record {
      ok = leaves_nothing _ _ _ e;
      part = leaves_nothing_partly _ _ _ e;
      cause = record { later = omega arith; failed = λ e. absurd cc };
      unfailing = refl;
      no_memory = λ e. refl;
    }
