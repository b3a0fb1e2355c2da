-- An input leads a state on to the same wherever it is cut into pieces, though of a part of a line no more than some bytes are kept:
-- as long as lines that begin with the same so many bytes lead to the same. Assumes nothing.
use Prim.Native.Nat.{ℕ, zero, suc, ◌≤◌, ◌<◌}
use mathlib.Core.List.{List, [], ◌∷◌, ◌++◌, append_assoc, append-nil}
use mathlib.Core.Logic.{◌⊎◌, inl, inr}
use mathlib.Core.Path.{◌≡◌, refl, sym, ap, ◌∙◌}
use lib.ListN.{length, take, length-append}
use lib.Seq.{take_all, take-take, take-append-le, length-take-le}
use native.Mathlib.Omega.{arith}
use Rattle.basics.specs.Lists.{none, also}
use Rattle.basics.proofs.LawsLists.{all_both}
use Rattle.basics.proofs.LawsChoice.{lt_or_le}
use Rattle.rules.specs.Day.{Cut, in_front, cut, unended_line, lines_in}
use Rattle.rules.proofs.LawsDay.{part_unended, cut_behind, unended_line_lem, lines_go_on}
use Rattle.rules.proofs.LawsUnended.{Unended}
use Rattle.command_lines.specs.Pieces.{all_of, after_lines, after_part, after_pieces}

-- ── Parts of a line ──

pub unended_take : (k : ℕ) {s : List ℕ} → Unended s → Unended (take k s)
unended_take zero a = none
unended_take (suc k) none = none
unended_take (suc k) (also e a) = also e (unended_take k a)

-- ── Parts that no piece tells apart ──

module _ (kept : ℕ) where
  -- so long that no more is kept of either, and begun with the same bytes
  abbrev AsKept : List ℕ → List ℕ → Type 0
  AsKept p q = (kept ≤ length p) × (kept ≤ length q) × (take kept p ≡ take kept q)

  abbrev SameOrKept : List ℕ → List ℕ → Type 0
  SameOrKept p q = (p ≡ q) ⊎ AsKept p q

  record Alike (p q : List ℕ) : Type 0 where
    first : Unended p
    second : Unended q
    either : SameOrKept p q

  same_alike : {p : List ℕ} → Unended p → Alike p p
  same_alike a = record { first = a; second = a; either = inl refl }

  alike_kept : {p q : List ℕ} → Alike p q → Alike p (take kept q)
  alike_kept {p} {q} a = record { first = a.first; second = unended_take kept a.second; either = by_length (lt_or_le (length q) kept) }
    where
      long : kept ≤ length q → kept ≤ length (take kept q)
      long h = omega (arith, length-take-le kept q h)

      again : take kept (take kept q) ≡ take kept q
      again = take-take kept kept q (omega arith)

      by_either : kept ≤ length q → SameOrKept p q → AsKept p (take kept q)
      by_either h (inl e) = (rw e h, long h, ap (take kept) e ∙ sym again)
      by_either h (inr o) = (o.0, long h, o.2 ∙ sym again)

      by_length : (length q < kept) ⊎ (kept ≤ length q) → SameOrKept p (take kept q)
      by_length (inl h) = let k : take kept q ≡ q = take_all kept q (omega arith) in rw k a.either
      by_length (inr h) = inr (by_either h a.either)

  -- with the same bytes behind them they are so again
  as_kept_behind : (p q l : List ℕ) → AsKept p q → AsKept (p ++ l) (q ++ l)
  as_kept_behind p q l o = (
    omega (arith, length-append p l, o.0),
    omega (arith, length-append q l, o.1),
    take-append-le kept p l o.0 ∙ o.2 ∙ sym (take-append-le kept q l o.1),
  )

-- ── Pieces ──

-- a state, where lines that begin with the same bytes lead it on to the same
module _ {S : Type 0} (turn : S → List ℕ → S) (kept : ℕ) (some : 0 < kept)
    (same : (s : S) (p q : List ℕ) → kept ≤ length p → kept ≤ length q → take kept p ≡ take kept q → turn s p ≡ turn s q) where
  -- a piece behind parts that are alike leads on to the same, and parts are left that are alike again
  record Agreeing (c d : Cut) : Type 0 where
    leads : (s : S) → after_lines turn s c.whole ≡ after_lines turn s d.whole
    parts : Alike kept c.part d.part

  kept_agreeing : {p q : List ℕ} → Unended p → Unended q → AsKept kept p q
      → (whole : List (List ℕ)) {part : List ℕ} → Unended part → Agreeing (in_front p whole part) (in_front q whole part)
  unfolding in_front after_lines
  kept_agreeing {p} {q} a c o [] {part} z = record {
    leads = λ (s : S). refl;
    parts = record { first = all_both a z; second = all_both c z; either = inr (as_kept_behind kept p q part o) };
  }
  kept_agreeing {p} {q} a c o (l ∷ ls) z =
      let k = as_kept_behind kept p q l o in
      record {
        leads = λ (s : S). ap (λ (x : S). after_lines turn x ls) (same s (p ++ l) (q ++ l) k.0 k.1 k.2);
        parts = same_alike kept z;
      }

  alike_agreeing : {p q : List ℕ} → Alike kept p q → (u : List ℕ) → Agreeing (cut (p ++ u)) (cut (q ++ u))
  alike_agreeing {p} {q} a u = by_either a.either
    where
      by_either : SameOrKept kept p q → Agreeing (cut (p ++ u)) (cut (q ++ u))
      by_either (inl e) = rw e (record { leads = λ (s : S). refl; parts = same_alike kept (part_unended (q ++ u)) })
      by_either (inr o) =
          rw (cut_behind a.first u, cut_behind a.second u) (kept_agreeing a.first a.second o (cut u).whole (part_unended u))

  -- the end of the input
  kept_at_end : (s : S) (p q : List ℕ) → AsKept kept p q → after_part turn s q ≡ after_part turn s p
  unfolding unended_line after_lines
  kept_at_end s [] q o = absurd (omega (arith, some, o.0))
  kept_at_end s (c ∷ p) [] o = absurd (omega (arith, some, o.1))
  kept_at_end s (c ∷ p) (d ∷ q) o = sym (same s (c ∷ p) (d ∷ q) o.0 o.1 o.2)

  alike_at_end : (s : S) {p q : List ℕ} → Alike kept p q → after_part turn s q ≡ after_part turn s p
  alike_at_end s {p} {q} a = by_either a.either
    where
      by_either : SameOrKept kept p q → after_part turn s q ≡ after_part turn s p
      by_either (inl e) = ap (after_part turn s) (sym e)
      by_either (inr o) = kept_at_end s p q o

  after_lines_append : (s : S) (ls ms : List (List ℕ)) → after_lines turn s (ls ++ ms) ≡ after_lines turn (after_lines turn s ls) ms
  unfolding after_lines
  after_lines_append s [] ms = refl
  after_lines_append s (l ∷ ls) ms = after_lines_append (turn s l) ls ms

  -- p is the whole of the part that q was kept of
  pieces_lead : (s : S) {p q : List ℕ} → Alike kept p q → (pieces : List (List ℕ))
      → after_pieces turn kept s q pieces ≡ after_lines turn s (lines_in (p ++ all_of pieces))
  unfolding after_pieces all_of
  pieces_lead s {p} {q} a [] = alike_at_end s a ∙ ap (after_lines turn s) (sym (unended_line_lem a.first) ∙ ap lines_in (sym (append-nil p)))
  pieces_lead s {p} {q} a (piece ∷ pieces) =
      let u = all_of pieces in
      let c = cut (p ++ piece) in
      let g = alike_agreeing a piece in
      let rest = pieces_lead (after_lines turn s c.whole) (alike_kept kept g.parts) pieces in
      let lines : lines_in (p ++ (piece ++ u)) ≡ c.whole ++ lines_in (c.part ++ u) = ap lines_in (sym (append_assoc p piece u)) ∙ lines_go_on u (p ++ piece) in
      rw (← g.leads s, rest, lines) (sym (after_lines_append s c.whole (lines_in (c.part ++ u))))

  pub cut_alike : (s : S) (pieces : List (List ℕ)) → after_pieces turn kept s [] pieces ≡ after_lines turn s (lines_in (all_of pieces))
  cut_alike s pieces = pieces_lead s (same_alike kept none) pieces
