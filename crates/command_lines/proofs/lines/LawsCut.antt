-- The first line of an input, as a loop finds it, and what is cut behind it. Assumes nothing.
use Prim.Native.Nat.{ℕ, suc, ◌≤◌, ◌<◌}
use mathlib.Core.Bool.{true, false}
use mathlib.Core.List.{List, [], ◌∷◌}
use mathlib.Core.Logic.{⊎_elim}
use mathlib.Core.Path.{◌≡◌, refl, ap}
use lib.ListN.{length, take, drop}
use native.Mathlib.Omega.{arith}
use Rattle.basics.specs.Lists.{first_where}
use Rattle.basics.proofs.LawsChoice.{holds_or_not}
use Rattle.rules.specs.Day.{Cut, cut, in_front}
use Rattle.command_lines.specs.Lines.{is_line_feed}

-- ── The first line ──

-- the bytes up to the first line feed are a line, and what is behind it is cut by itself
abbrev pub after_first : ℕ → List ℕ → Cut
after_first k s = record { whole = take (suc k) s ∷ (cut (drop (suc k) s)).whole; part = (cut (drop (suc k) s)).part }

pub cut_line : (s : List ℕ) → first_where is_line_feed s < length s → cut s ≡ after_first (first_where is_line_feed s) s
unfolding cut first_where in_front
cut_line [] l = let z : ⊥ = omega arith in absurd z
cut_line (c ∷ s) l =
    ⊎_elim
    (λ (t : is_line_feed c ≡ true). rw t)
    (λ (t : is_line_feed c ≡ false).
    let m : suc (first_where is_line_feed s) < suc (length s) = rw t at l in
    let e : cut s ≡ after_first (first_where is_line_feed s) s = cut_line s (omega arith) in
    rw t (ap (λ (x : Cut). in_front (c ∷ []) x.whole x.part) e))
    (holds_or_not (is_line_feed c))

pub cut_none : (s : List ℕ) → length s ≤ first_where is_line_feed s → cut s ≡ record { whole = []; part = s }
unfolding cut first_where in_front
cut_none [] l = refl
cut_none (c ∷ s) l =
    ⊎_elim
    (λ (t : is_line_feed c ≡ true). let m : suc (length s) ≤ 0 = rw t at l in let z : ⊥ = omega arith in absurd z)
    (λ (t : is_line_feed c ≡ false). let m : suc (length s) ≤ suc (first_where is_line_feed s) = rw t at l in rw (t, cut_none s (omega arith)))
    (holds_or_not (is_line_feed c))

-- the first line feed, or the end, stands within the bytes
pub line_within : (s : List ℕ) → first_where is_line_feed s ≤ length s
unfolding first_where
line_within [] = omega arith
line_within (c ∷ s) =
    ⊎_elim
    (λ (t : is_line_feed c ≡ true). rw t (omega arith))
    (λ (t : is_line_feed c ≡ false). rw t (omega (arith, line_within s)))
    (holds_or_not (is_line_feed c))
