-- The public contract determines its result, the header, both sides and the bytes: any two outcomes that meet it are equal. The contract is read
-- here as the checker reads it from the source (`Post`), not from a copy. Assumes nothing.
use Prim.Native.Nat.{ℕ}
use mathlib.Core.Path.{◌≡◌, sym, ◌∙◌}
use Rattle.std.specs.Prelude.{Result}
use Rattle.rules.specs.declared.Refusal.{Refusal}
use Rattle.orders.proofs.enter.Reads as enter

pub enter_determined : (κs : _) (a : _) (r r' : Result ℕ Refusal) (s s' : _) → enter.Post κs a r s → enter.Post κs a r' s'
    → (r ≡ r')
    × (s.0.now ≡ s'.0.now)
    × (s.1.1.1.1.0.now ≡ s'.1.1.1.1.0.now)
    × (s.1.1.1.1.1.0.now ≡ s'.1.1.1.1.1.0.now)
    × (s.1.1.1.1.1.1.1.0.now ≡ s'.1.1.1.1.1.1.1.0.now)
enter_determined κs a r r' s s' p q =
    let here = p.0 0 in
    let there = q.0 0 in
    (here.0 ∙ sym there.0, p.1 ∙ sym q.1, here.1 ∙ sym there.1, here.2 ∙ sym there.2, here.3 ∙ sym there.3)
