-- Each public contract determines its tally, and how far it came: any two outcomes that meet it are equal. A contract is read here as the checker reads it
-- from the source (`Post`), not from a copy. Assumes nothing.
use mathlib.Core.Path.{◌≡◌, sym, ◌∙◌}
use Rattle.tally.specs.declared.TalliedPiece.{TalliedPiece}
use Rattle.tally.specs.declared.Tally.{Tally}
use Rattle.tally.proofs.begin.Reads as begin
use Rattle.tally.proofs.take_line.Reads as take
use Rattle.tally.proofs.feed.Reads as feed

pub begin_determined : (κs : _) (a : _) (r r' : Tally) (s s' : _) → begin.Post κs a r s → begin.Post κs a r' s' → r ≡ r'
begin_determined κs a r r' s s' p q = p ∙ sym q

pub take_line_determined : (κs : _) (a : _) (r r' : Tally) (s s' : _) → take.Post κs a r s → take.Post κs a r' s' → r ≡ r'
take_line_determined κs a r r' s s' p q = p ∙ sym q

pub feed_determined : (κs : _) (a : _) (r r' : TalliedPiece) (s s' : _) → feed.Post κs a r s → feed.Post κs a r' s' → r ≡ r'
feed_determined κs a r r' s s' p q = p ∙ sym q
