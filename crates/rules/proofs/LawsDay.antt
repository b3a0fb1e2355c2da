-- The lines of an input, and what they are where it goes on. Assumes nothing.
use Prim.Native.Nat.{ℕ}
use mathlib.Core.Bool.{true, false}
use mathlib.Core.List.{List, [], ◌∷◌, ◌++◌, append_assoc, append-nil}
use mathlib.Core.Logic.{⊎_elim}
use mathlib.Core.Path.{◌≡◌, refl, sym, ap, ◌∙◌}
use lib.Dec.{eqb}
use Rattle.basics.specs.Lists.{none, also}
use Rattle.basics.proofs.LawsChoice.{holds_or_not}
use Rattle.rules.specs.CommandLines.{line_feed}
use Rattle.rules.specs.Day.{Cut, in_front, cut, unended_line, lines_in}
use Rattle.rules.proofs.LawsUnended.{Unended}

-- ── A part of a line ──

in_front_unended : (c : ℕ) (whole : List (List ℕ)) {part : List ℕ} → eqb c line_feed ≡ false → Unended part → Unended (in_front (c ∷ []) whole part).part
unfolding in_front
in_front_unended c [] f a = also f a
in_front_unended c (l ∷ ls) f a = a

-- what is cut off holds no line feed
pub part_unended : (s : List ℕ) → Unended (cut s).part
unfolding cut
part_unended [] = none
part_unended (c ∷ s) =
    ⊎_elim
    (λ (t : eqb c line_feed ≡ true). rw t (part_unended s))
    (λ (t : eqb c line_feed ≡ false). rw t (in_front_unended c (cut s).whole t (part_unended s)))
    (holds_or_not (eqb c line_feed))

in_front_none : (whole : List (List ℕ)) (part : List ℕ) → record { whole = whole; part = part } ≡ in_front [] whole part
unfolding in_front
in_front_none [] part = refl
in_front_none (l ∷ ls) part = refl

in_front_more : (c : ℕ) (p : List ℕ) (whole : List (List ℕ)) (part : List ℕ)
    → in_front (c ∷ []) (in_front p whole part).whole (in_front p whole part).part ≡ in_front (c ∷ p) whole part
unfolding in_front
in_front_more c p [] part = refl
in_front_more c p (l ∷ ls) part = refl

-- bytes with no line feed stand in front of what is cut of those behind them
pub cut_behind : {p : List ℕ} → Unended p → (u : List ℕ) → cut (p ++ u) ≡ in_front p (cut u).whole (cut u).part
unfolding cut
cut_behind none u = in_front_none (cut u).whole (cut u).part
cut_behind (also {x = c} {s = p} f a) u = rw (f, cut_behind a u) (in_front_more c p (cut u).whole (cut u).part)

-- ── Lines ──

-- so they are a line with the line feed behind them
pub first_line_lem : {s : List ℕ} (rest : List ℕ) → Unended s → lines_in (s ++ (line_feed ∷ rest)) ≡ (s ++ (line_feed ∷ [])) ∷ lines_in rest
unfolding lines_in cut in_front
first_line_lem rest a = rw (cut_behind a (line_feed ∷ rest)) refl

-- and one with none where nothing is behind them
pub unended_line_lem : {s : List ℕ} → Unended s → lines_in s ≡ unended_line s
unfolding lines_in cut in_front
unended_line_lem {s} a = ap lines_in (sym (append-nil s)) ∙ rw (cut_behind a [], append-nil s) refl

-- ── An input that goes on ──

module _ (u : List ℕ) where
  abbrev going_on : List (List ℕ) → List ℕ → Cut
  going_on whole part = record { whole = whole ++ (cut (part ++ u)).whole; part = (cut (part ++ u)).part }

  front_goes_on : (c : ℕ) (whole : List (List ℕ)) (part : List ℕ) → eqb c line_feed ≡ false
      → in_front (c ∷ []) (going_on whole part).whole (going_on whole part).part
      ≡ going_on (in_front (c ∷ []) whole part).whole (in_front (c ∷ []) whole part).part
  unfolding in_front cut
  front_goes_on c [] part f = rw f
  front_goes_on c (l ∷ ls) part f = refl

  cut_goes_on : (s : List ℕ) → cut (s ++ u) ≡ going_on (cut s).whole (cut s).part
  unfolding cut
  cut_goes_on [] = refl
  cut_goes_on (c ∷ s) =
      ⊎_elim
      (λ (t : eqb c line_feed ≡ true). rw (t, cut_goes_on s))
      (λ (t : eqb c line_feed ≡ false). rw (t, cut_goes_on s) (front_goes_on c (cut s).whole (cut s).part t))
      (holds_or_not (eqb c line_feed))

  -- its lines are the whole lines of what came first, and those of the part behind them with what goes on
  pub lines_go_on : (s : List ℕ) → lines_in (s ++ u) ≡ (cut s).whole ++ lines_in ((cut s).part ++ u)
  unfolding lines_in
  lines_go_on s =
      let rest = cut ((cut s).part ++ u) in
      ap (λ (c : Cut). c.whole ++ unended_line c.part) (cut_goes_on s) ∙ append_assoc (cut s).whole rest.whole (unended_line rest.part)
