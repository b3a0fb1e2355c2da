-- Each public contract determines its result, the book, the bytes that wait and the output: any two outcomes that meet it agree in these.
-- A contract is read here as the checker reads it from the source (`Post`), not from a copy. Assumes nothing.
use Prim.Native.Nat.{ℕ}
use mathlib.Core.Path.{◌≡◌, sym, ◌∙◌}
use Rattle.day.specs.declared.night.Turn.{Turn}
use Rattle.day.proofs.night.take_turn.Reads as turn
use Rattle.day.proofs.night.finish.Reads as finish

pub take_turn_determined : (κs : _) (a : _) (r r' : Turn) (s s' : _) → turn.Post κs a r s → turn.Post κs a r' s'
    → (r ≡ r') × (s.0.now ≡ s'.0.now) × (s.1.0.now ≡ s'.1.0.now) × (s.1.1.1.1.0.now ≡ s'.1.1.1.1.0.now)
take_turn_determined κs a r r' s s' p q = (p.0 ∙ sym q.0, p.1 ∙ sym q.1, p.2 ∙ sym q.2, p.3 ∙ sym q.3)

pub finish_determined : (κs : _) (a : _) (r r' : ℕ) (s s' : _) → finish.Post κs a r s → finish.Post κs a r' s'
    → (r ≡ r') × (s.1.0.now ≡ s'.1.0.now)
finish_determined κs a r r' s s' p q = (p.0 ∙ sym q.0, p.1.1 ∙ sym q.1.1)
