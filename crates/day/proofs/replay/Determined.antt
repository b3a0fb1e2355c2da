-- Each public contract determines its result, the book and the bytes: any two outcomes that meet it are equal. A contract is read here as
-- the checker reads it from the source (`Post`), not from a copy. Assumes nothing.
use mathlib.Core.Path.{◌≡◌, sym, ◌∙◌}
use Rattle.rules.specs.Book.{Book}
use Rattle.day.specs.declared.replay.Fed.{Fed}
use Rattle.day.proofs.replay.begin.Reads as begin
use Rattle.day.proofs.replay.begin_again.Reads as begin-again
use Rattle.day.proofs.replay.feed.Reads as feed

pub begin_determined : (κs : _) (a : _) (r r' : Book) (s s' : _) → begin.Post κs a r s → begin.Post κs a r' s' → r ≡ r'
begin_determined κs a r r' s s' p q = p ∙ sym q

pub begin_again_determined : (κs : _) (a : _) (r r' : _) (s s' : _) → begin-again.Post κs a r s → begin-again.Post κs a r' s' → s.0.now ≡ s'.0.now
begin_again_determined κs a r r' s s' p q = p ∙ sym q

pub feed_determined : (κs : _) (a : _) (r r' : Fed) (s s' : _) → feed.Post κs a r s → feed.Post κs a r' s'
    → (r ≡ r') × (s.0.now ≡ s'.0.now) × (s.1.1.1.0.now ≡ s'.1.1.1.0.now)
feed_determined κs a r r' s s' p q = (p.0 ∙ sym q.0, p.1 ∙ sym q.1, p.2 ∙ sym q.2)
