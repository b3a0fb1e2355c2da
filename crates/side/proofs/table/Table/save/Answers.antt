-- `side::table::Table::save` meets its contract. After each turn the first `i` places hold the orders of the best ranks. Assumes nothing.
use Prim.Native.Nat.{ℕ}
use mathlib.Core.List.{List}
use mathlib.Core.Path.{◌≡◌, ◌∙◌}
use lib.ListN.{length, take, replicate, length-replicate}
use lib.Seq.{take_all}
use native.Mathlib.Omega.{arith}
use Rattle.std.proofs.lemmas.List.{drop-replicate, map-id}
use Rattle.rules.specs.declared.Resting.{Resting}
use Rattle.rules.specs.Book.{places_a_side, unused, places_of}
use Rattle.side.proofs.tables.LawsCopied.{copied, copied_step}
use Rattle.side.proofs.table.Table.save.Goals as goal

-- the orders, and unused places behind them
all_copied : (s : List Resting) (n : ℕ) → n ≡ length s → copied (λ (o : Resting). o) s (replicate places_a_side unused) n ≡ (places_of s).places
unfolding places_of
all_copied s n e =
    let all : take n s ≡ s = take_all n s (omega arith) in
    rw (all, map-id s, drop-replicate n places_a_side unused, e)

pub loop-i-preserved : goal.loop-i-preserved
loop-i-preserved c =
    let l = c.loop-i in
    let s = c.args.self.now in (
      omega arith,
      l.invariant.1,
      l.invariant.2,
      copied_step (λ (o : Resting). o) unused unused s (replicate places_a_side unused) l.places l.i c.at-o.result
          (omega (arith, l.invariant.1)) (omega (arith, l.invariant.2, length-replicate places_a_side unused)) c.at-o.ensures l.invariant.3,
    )

pub returns : goal.returns
returns c =
    let l = c.loop-i in
    let s = c.args.self.now in
    l.invariant.3 ∙ all_copied s l.i (omega (arith, l.invariant.1))
