-- Each public contract determines its result and its bytes: any two outcomes that meet it are equal. A contract is read here
-- as the checker reads it from the source (`Post`), not from a copy. Assumes nothing.
use mathlib.Core.Path.{◌≡◌, sym, ◌∙◌}
use Prim.Native.Nat.{ℕ}
use Rattle.event_lines.proofs.writer.write_executed.Reads as write-executed
use Rattle.event_lines.proofs.writer.write_rested.Reads as write-rested
use Rattle.event_lines.proofs.writer.write_cancelled.Reads as write-cancelled
use Rattle.event_lines.proofs.writer.write_moved.Reads as write-moved
use Rattle.event_lines.proofs.writer.write_refusal.Reads as write-refusal

pub write_executed_determined : (κs : _) (a : _) (r r' : ℕ) (s s' : _) → write-executed.Post κs a r s → write-executed.Post κs a r' s' → (r ≡ r') × (s.0.now ≡ s'.0.now)
write_executed_determined κs a r r' s s' p q = (p.0 ∙ sym q.0, p.1 ∙ sym q.1)

pub write_rested_determined : (κs : _) (a : _) (r r' : ℕ) (s s' : _) → write-rested.Post κs a r s → write-rested.Post κs a r' s' → (r ≡ r') × (s.0.now ≡ s'.0.now)
write_rested_determined κs a r r' s s' p q = (p.0 ∙ sym q.0, p.1 ∙ sym q.1)

pub write_cancelled_determined : (κs : _) (a : _) (r r' : ℕ) (s s' : _) → write-cancelled.Post κs a r s → write-cancelled.Post κs a r' s' → (r ≡ r') × (s.0.now ≡ s'.0.now)
write_cancelled_determined κs a r r' s s' p q = (p.0 ∙ sym q.0, p.1 ∙ sym q.1)

pub write_moved_determined : (κs : _) (a : _) (r r' : ℕ) (s s' : _) → write-moved.Post κs a r s → write-moved.Post κs a r' s' → (r ≡ r') × (s.0.now ≡ s'.0.now)
write_moved_determined κs a r r' s s' p q = (p.0 ∙ sym q.0, p.1 ∙ sym q.1)

pub write_refusal_determined : (κs : _) (a : _) (r r' : ℕ) (s s' : _) → write-refusal.Post κs a r s → write-refusal.Post κs a r' s' → (r ≡ r') × (s.0.now ≡ s'.0.now)
write_refusal_determined κs a r r' s s' p q = (p.0 ∙ sym q.0, p.1 ∙ sym q.1)
