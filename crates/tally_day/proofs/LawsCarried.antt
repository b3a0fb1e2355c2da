-- What stands behind the whole lines of a piece is its part of a line, and what is moved to the front is so much of it as is kept.
-- Assumes nothing.
use Prim.Native.Nat.{ℕ, ◌+◌, ◌-◌, ◌≤◌}
use mathlib.Core.Bool.{true, false}
use mathlib.Core.List.{List, [], ◌∷◌, ◌++◌}
use mathlib.Core.Logic.{⊎_elim}
use mathlib.Core.Path.{◌≡◌, refl, sym, ap, ◌∙◌}
use lib.Dec.{eqb}
use lib.ListN.{length, take, drop, length-append, length-take}
use lib.Seq.{take_at, drop_at}
use native.Mathlib.Omega.{arith}
use Rattle.basics.specs.Bytes.{onto}
use Rattle.basics.proofs.LawsChoice.{holds_or_not}
use Rattle.command_lines.specs.Pieces.{all_of, carried, part_kept}
use Rattle.rules.specs.Day.{in_front, cut}
use Rattle.rules.specs.CommandLines.{line_feed}

-- ── The part of a line ──

front_all : (c : ℕ) (whole : List (List ℕ)) (part : List ℕ) → all_of (in_front (c ∷ []) whole part).whole ++ (in_front (c ∷ []) whole part).part ≡ c ∷ (all_of whole ++ part)
unfolding in_front all_of
front_all c [] part = refl
front_all c (l ∷ ls) part = refl

cut_all : (s : List ℕ) → all_of (cut s).whole ++ (cut s).part ≡ s
unfolding cut all_of
cut_all [] = refl
cut_all (c ∷ s) =
    ⊎_elim
    (λ (t : eqb c line_feed ≡ true). rw t (ap (λ (r : List ℕ). c ∷ r) (cut_all s)))
    (λ (t : eqb c line_feed ≡ false). rw t (front_all c (cut s).whole (cut s).part ∙ ap (λ (r : List ℕ). c ∷ r) (cut_all s)))
    (holds_or_not (eqb c line_feed))

part_behind : (s : List ℕ) → (cut s).part ≡ drop (length s - length (cut s).part) s
part_behind s =
    let whole = all_of (cut s).whole in
    let long : length s ≡ length whole + length (cut s).part = sym (ap length (cut_all s)) ∙ length-append whole (cut s).part in
    let place : length whole ≡ length s - length (cut s).part = omega (arith, long) in
    sym (drop_at whole (cut s).part (length s - length (cut s).part) place) ∙ ap (drop (length s - length (cut s).part)) (cut_all s)

-- ── What is kept of it ──

-- what was carried onto the front of the input is the part, so much of it as is kept
pub part_kept_lem : (input : List ℕ) (end at have : ℕ) (left : List ℕ) → at ≡ length (take end input) - length (cut (take end input)).part
    → have ≡ length (carried input at end part_kept) → left ≡ onto (carried input at end part_kept) input
    → (take have left ≡ take part_kept (cut (take end input)).part) × (have ≤ part_kept)
unfolding onto
part_kept_lem input end at have left place long moved = (
  rw moved (take_at (carried input at end part_kept) _ have (sym long) ∙ rw (place, ← part_behind (take end input))),
  omega (arith, long, length-take part_kept (drop at (take end input))),
)
