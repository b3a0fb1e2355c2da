-- A piece's whole lines taken one after the other: what the lines so far and the lines ahead lead a tally on to is together what those
-- of the whole piece do. Assumes nothing.
use Prim.Native.Nat.{ℕ, suc, ◌+◌, ◌-◌, ◌≤◌, ◌<◌}
use mathlib.Core.List.{List, []}
use mathlib.Core.Path.{◌≡◌, refl, sym, ap, ◌∙◌}
use lib.ListN.{length, take, drop, length-drop}
use lib.Seq.{take_all, drop-drop}
use native.Mathlib.Omega.{arith}
use Rattle.basics.specs.Lists.{first_where}
use Rattle.kinds.specs.declared.Number.{Number}
use Rattle.command_lines.specs.Lines.{is_line_feed}
use Rattle.command_lines.specs.Pieces.{after_lines}
use Rattle.rules.specs.Day.{Cut, cut}
use Rattle.command_lines.proofs.lines.LawsCut.{after_first, cut_line, cut_none}
use Rattle.tally.specs.declared.TalliedPiece.{TalliedPiece}
use Rattle.tally.specs.declared.Tally.{Tally}
use Rattle.tally.specs.Tally.{turn, fed_on}

abbrev fed : Tally → ℕ → TalliedPiece
fed t at = record { tally = t; at = at }

module _ (n : Number) (t₀ : Tally) (input : List ℕ) where
  -- a tally before the byte `at`, from which the lines ahead lead on to what all lines of the input do
  pub record Feeding (t : Tally) (at : ℕ) : Type 0 where
    pub within : at ≤ length input
    pub leads : after_lines (turn n) t (cut (drop at input)).whole ≡ after_lines (turn n) t₀ (cut input).whole
    pub part : (cut (drop at input)).part ≡ (cut input).part

  pub feeding_start : Feeding t₀ 0
  feeding_start = record { within = omega arith; leads = refl; part = refl }

  module _ (t : Tally) (at : ℕ) (f : Feeding t at) where
    -- what is lent from `at` on: all that is ahead
    abbrev pub lent : List ℕ
    lent = take (length input - at) (drop at input)

    lent_is : lent ≡ drop at input
    lent_is = take_all (length input - at) (drop at input) (omega (arith, length-drop at input))

    module _ (end : ℕ) (end_is : end ≡ first_where is_line_feed lent) where
      found : end ≡ first_where is_line_feed (drop at input)
      found = end_is ∙ ap (first_where is_line_feed) lent_is

      -- a line more
      pub feeding_line : end < length input - at → (t' : Tally) → t' ≡ turn n t (take (end + 1 - 0) lent) → Feeding t' (at + (end + 1))
      unfolding after_lines
      feeding_line l t' is =
          let long : length (drop at input) ≡ length input - at = length-drop at input in
          let first : cut (drop at input) ≡ after_first end (drop at input) = rw found (cut_line (drop at input) (omega (arith, l, long, found))) in
          let all : end + 1 - 0 ≡ suc end = omega arith in
          let line : t' ≡ turn n t (take (suc end) (drop at input)) = is ∙ rw (all, lent_is) refl in
          let behind : drop (suc end) (drop at input) ≡ drop (at + (end + 1)) input = drop-drop (suc end) at input ∙ ap (λ (k : ℕ). drop (at + k) input) (omega arith) in
          record {
            within = omega (arith, l, f.within);
            leads = rw (line, ← behind) (sym (ap (λ (c : Cut). after_lines (turn n) t c.whole) first) ∙ f.leads);
            part = rw (← behind) (sym (ap (λ (c : Cut). c.part) first) ∙ f.part);
          }

      -- no line feed is ahead: what is ahead is the part
      pub feeding_end : length input - at ≤ end → fed t at ≡ fed_on n t₀ input
      unfolding fed_on after_lines
      feeding_end l =
          let long : length (drop at input) ≡ length input - at = length-drop at input in
          let none : cut (drop at input) ≡ record { whole = []; part = drop at input } = cut_none (drop at input) (omega (arith, l, long, found)) in
          let led : t ≡ after_lines (turn n) t₀ (cut input).whole = sym (ap (λ (c : Cut). after_lines (turn n) t c.whole) none) ∙ f.leads in
          let part : (cut input).part ≡ drop at input = sym f.part ∙ ap (λ (c : Cut). c.part) none in
          let place : at ≡ length input - length (cut input).part = rw part (omega (arith, long, f.within)) in
          fed_is_lem led place
        where
          fed_is_lem : {t t' : Tally} {at at' : ℕ} → t ≡ t' → at ≡ at' → fed t at ≡ fed t' at'
          fed_is_lem p q = rw (p, q)
