-- `command_lines::lines::scan_line` meets its contract: the library's first place is that of `first_where`. Assumes nothing.
use Prim.Native.Nat.{ℕ, suc, ◌+◌, ◌≤◌, ◌<◌}
use mathlib.Core.Bool.{Bool, true, false, not, cond}
use mathlib.Core.List.{List, [], ◌∷◌}
use mathlib.Core.Logic.{⊎_elim}
use mathlib.Core.Path.{◌≡◌, refl, ap, ◌∙◌}
use lib.Dec.{ltb}
use lib.ListN.{length}
use native.Mathlib.Omega.{arith}
use borrow.Author.Tests.{lt-ltb, le-ltb}
use borrow.Author.Rules.{rules}
use Rattle.std.proofs.Common.{tests}
use Rattle.std.proofs.lemmas.Iterator.{YieldsList-from_slice}
use Rattle.std.proofs.lemmas.Iterator.Search.{position_from_yields_List}
use Rattle.std.specs.List.{position_or_len}
use Rattle.std.specs.Option.{unwrap_or}
use Rattle.std.specs.Prelude.{if◌then◌else◌, Option, Some, None}
use Rattle.basics.specs.Lists.{first_where}
use Rattle.command_lines.specs.Lines.{is_line_feed, to_line_feed}
use Rattle.basics.proofs.LawsChoice.{lt_or_le}
use Rattle.command_lines.proofs.lines.LawsCut.{line_within}
use Rattle.command_lines.proofs.lines.scan_line.Goals as goal

-- the library's place, or the length where there is none
first_is : (s : List ℕ) → position_or_len is_line_feed s ≡ to_line_feed s
unfolding first_where
first_is [] = refl
first_is (c ∷ s) = by_test (is_line_feed c) (first_is s)
  where
    by_test : (t : Bool) {m n : ℕ} → m ≡ n → cond (not t) (1 + m) 0 ≡ (if t then 0 else suc n)
    by_test true e = refl
    by_test false e = omega arith

-- the place that is found, or the length
found_or : (s : List ℕ) (n : ℕ) → n ≤ length s → unwrap_or (cond (ltb n (length s)) (Some n) None) (length s) ≡ n
found_or s n h =
    ⊎_elim
    (λ (l : n < length s). rw (lt-ltb n (length s) l))
    (λ (l : length s ≤ n). rw (le-ltb n (length s) l) (omega arith))
    (lt_or_le n (length s))

pub returns : goal.returns
returns c =
    let s = c.args.s.now in
    let found = position_from_yields_List is_line_feed _ _ c.position.result c.position.ensures.ran (YieldsList-from_slice s cc) (λ x b q k. search (rules, tests)) in
    c.unwrap_or.ensures
    ∙ ap (λ (r : Option ℕ). unwrap_or r (length s)) found
    ∙ found_or s (position_or_len is_line_feed s) (rw (first_is s) (line_within s))
    ∙ first_is s
