-- `day::night::finish` meets its contract: a part of a line is refused with 3, and where no byte waits nothing is printed. Assumes nothing.
use Prim.Native.Nat.{ℕ}
use mathlib.Core.List.{List, [], ◌∷◌}
use mathlib.Core.Path.{◌≡◌, refl, sym, ◌∙◌}
use lib.ListN.{length}
use native.Mathlib.Omega.{arith}
use Rattle.basics.proofs.LawsBytes.{onto_none}
use Rattle.day.specs.Pieces.{printed_at_end}
use Rattle.rules.specs.EventLines.{refusal_line}
use Rattle.rules.proofs.LawsEvents.{refusal_length}
use Rattle.day.proofs.night.finish.Goals as goal

no_part : (part : List ℕ) → length part ≡ 0 → printed_at_end part ≡ []
unfolding printed_at_end
no_part [] e = refl
no_part (b ∷ part) e = let z : ⊥ = omega arith in absurd z

some_part : (part : List ℕ) → (length part ≡ 0 → ⊥) → printed_at_end part ≡ refusal_line 3
unfolding printed_at_end
some_part [] n = absurd (n refl)
some_part (b ∷ part) n = refl

pub returns-then-none_waits : goal.returns-then-none_waits
returns-then-none_waits c =
    let a = c.args in
    rw (no_part a.part.now c.if-none_waits.true) (record { value = refl; fits = omega arith; out_after = onto_none a.out.now })

pub returns : goal.returns
returns c =
    let a = c.args in
    let w = c.write_refusal in
    rw (some_part a.part.now c.if-none_waits.false) (record {
      value = w.ensures.value ∙ sym (refusal_length 3);
      fits = omega (arith, w.ensures.value, w.auto.out, c.requires);
      out_after = rw c.from.ensures at w.ensures.out_after;
    })
