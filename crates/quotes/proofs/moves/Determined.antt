-- The public contract determines its result, the side and the bytes: any two outcomes that meet it are equal. The contract is read here as
-- the checker reads it from the source (`Post`), not from a copy. Assumes nothing.
use mathlib.Core.Path.{◌≡◌, sym, ◌∙◌}
use Rattle.settling.specs.declared.Settling.{Settling}
use Rattle.quotes.proofs.moves.move_side.Reads as move-side

pub move_side_determined : (κs : _) (a : _) (r r' : Settling) (s s' : _) → move-side.Post κs a r s → move-side.Post κs a r' s'
    → (r ≡ r') × (s.0.now ≡ s'.0.now) × (s.1.1.1.1.1.0.now ≡ s'.1.1.1.1.1.0.now)
move_side_determined κs a r r' s s' p q = (p.0 ∙ sym q.0, p.1.0 ∙ sym q.1.0, p.1.1 ∙ sym q.1.1)
