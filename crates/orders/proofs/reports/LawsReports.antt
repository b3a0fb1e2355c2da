-- Laws of a loop that writes one line for each element of a list, over any element, its event and the width of its line; and that the
-- events of a walk's takings are the executions of 01. Assumes nothing.
use Prim.Native.Nat.{ℕ, ◌+◌, ◌-◌, ◌*◌, ◌<◌}
use mathlib.Core.Bool.{true, false}
use mathlib.Core.List.{List, [], ◌∷◌, ◌++◌, map, append-nil, map-append}
use mathlib.Core.Logic.{⊎_elim}
use mathlib.Core.Path.{◌≡◌, refl, sym, ap, ◌∙◌}
use lib.Dec.{eqb}
use lib.ListN.{length, get_or, take, drop, length-append}
use lib.Seq.{take-suc, length-take-le}
use native.Mathlib.Nat.{mul-suc}
use native.Mathlib.Numerals.{add-one}
use native.Mathlib.Omega.{arith}
use Rattle.basics.specs.Bytes.{onto, onto_from}
use Rattle.basics.specs.Lists.{All, none, also}
use Rattle.basics.proofs.LawsBytes.{onto_next, onto_part}
use Rattle.basics.proofs.LawsChoice.{holds_or_not}
use Rattle.basics.proofs.LawsLists.{all_at}
use Rattle.kinds.specs.declared.HalfCents.{HalfCents}
use Rattle.kinds.specs.declared.Number.{Number}
use Rattle.rules.specs.declared.Event.{Event}
use Rattle.rules.specs.declared.Resting.{Resting}
use Rattle.rules.specs.Book.{unused}
use Rattle.rules.specs.EventLines.{event_line, event_lines}
use Rattle.rules.specs.Holdings.{Holding, holdings, executions}
use Rattle.rules.proofs.LawsEvents.{event_lines_append}
use Rattle.orders.specs.Cursor.{Placed, part_of, placed_from}
use Rattle.orders.specs.Walk.{taking, takings_from}
use Rattle.orders.proofs.cursor.LawsParts.{all_placed, placed_holdings}
use Rattle.orders.specs.Reports.{execution_of}

-- ── Line by line ──

module _ {A : Type 0} (f : A → Event) (width : ℕ) (wide : (x : A) → length (event_line (f x)) ≡ width) where
  pub lines_length : (s : List A) → length (event_lines (map f s)) ≡ width * length s
  unfolding event_lines
  lines_length [] = omega arith
  lines_length (x ∷ s) = rw mul-suc (length-append (event_line (f x)) (event_lines (map f s)) ∙ omega (arith, wide x, lines_length s))

  module _ (d : A) (s : List A) (i : ℕ) (l : i < length s) where
    -- the lines of one element more
    lines_more : event_lines (map f (take (i + 1) s)) ≡ event_lines (map f (take i s)) ++ event_line (f (get_or s i d))
    unfolding event_lines
    lines_more =
        let x = get_or s i d in
        ap (λ (k : ℕ). event_lines (map f (take k s))) (add-one i)
        ∙ ap (λ (r : List A). event_lines (map f r)) (take-suc s i d l)
        ∙ ap event_lines (map-append f (take i s) (x ∷ []))
        ∙ event_lines_append (map f (take i s)) (f x ∷ [])
        ∙ ap (λ (b : List ℕ). event_lines (map f (take i s)) ++ b) (append-nil (event_line (f x)))

    -- one turn: the part of the buffer behind the lines is lent, and comes back with the next line at its front
    pub lines_turn : (len : ℕ) (out out₀ part : List ℕ) → len ≡ width * i
        → out ≡ onto (event_lines (map f (take i s))) out₀
        → part ≡ onto (event_line (f (get_or s i d))) (take (length out - len) (drop len out))
        → take len out ++ (part ++ drop (length out - len) (drop len out)) ≡ onto (event_lines (map f (take (i + 1) s))) out₀
    lines_turn len out out₀ part e o p =
        let line = event_line (f (get_or s i d)) in
        let written = event_lines (map f (take i s)) in
        let k : length written ≡ len = lines_length (take i s) ∙ ap (λ (n : ℕ). width * n) (length-take-le i s (omega arith)) ∙ sym e in
        onto_part len line out part p
        ∙ ap (onto_from len line) o
        ∙ onto_next written line out₀ len k
        ∙ ap (λ (b : List ℕ). onto b out₀) (sym lines_more)

-- ── What a walk executes ──

-- a taking's price becomes that of the execution against its order
placed_executed : (n : Number) (here : HalfCents → HalfCents) (price : Resting → HalfCents) (all : List Resting) {s : List Placed}
    → All (λ (p : Placed). (get_or all p.place unused ≡ p.holding.of) × (here p.holding.of.price ≡ price p.holding.of)) s
    → (ts : List ℕ) → map (execution_of n here all) (takings_from (map part_of s) ts) ≡ executions n price (map (λ (p : Placed). p.holding) s) ts
unfolding takings_from taking executions
placed_executed n here price all none ts = refl
placed_executed n here price all (also p a) [] = refl
placed_executed n here price all (also {x = p} is a) (t ∷ ts) =
    let rest = placed_executed n here price all a ts in
    ⊎_elim
    (λ (z : eqb t 0 ≡ true). rw z rest)
    (λ (z : eqb t 0 ≡ false). rw (z, is.0, is.1, rest))
    (holds_or_not (eqb t 0))

pub takings_executed : (n : Number) (here : HalfCents → HalfCents) (price : Resting → HalfCents) (s : List Resting)
    → All (λ (h : Resting). here h.price ≡ price h) s → (ts : List ℕ)
    → map (execution_of n here s) (takings_from (map part_of (placed_from 0 s)) ts) ≡ executions n price (holdings s) ts
takings_executed n here price s same ts =
    placed_executed n here price s
    (all_placed 0 s (λ k h b l is.
    let e : 0 + k ≡ k = omega arith in
    (ap (λ (j : ℕ). get_or s j unused) e ∙ sym is, rw is (all_at unused k same l))))
    ts
    ∙ ap (λ (hs : List Holding). executions n price hs ts) (placed_holdings 0 s)
