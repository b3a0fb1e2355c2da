-- The public contract determines its result, the book and the bytes: any two outcomes that meet it are equal. The contract is read here as the
-- checker reads it from the source (`Post`), not from a copy. Assumes nothing.
use Prim.Native.Nat.{ℕ}
use mathlib.Core.Path.{◌≡◌, sym, ◌∙◌}
use Rattle.std.specs.Prelude.{Result}
use Rattle.rules.specs.declared.Refusal.{Refusal}
use Rattle.commands.proofs.apply.Reads as apply

pub apply_determined : (κs : _) (a : _) (r r' : Result ℕ Refusal) (s s' : _) → apply.Post κs a r s → apply.Post κs a r' s'
    → (r ≡ r') × (s.0.now ≡ s'.0.now) × (s.1.1.1.0.now ≡ s'.1.1.1.0.now)
apply_determined κs a r r' s s' p q = (p.0 ∙ sym q.0, p.1.0 ∙ sym q.1.0, p.1.1 ∙ sym q.1.1)
