-- Every public contract determines its result: any two outcomes that meet it are equal. A contract is read here as the checker
-- reads it from the source (`Post`), not from a copy. Assumes nothing.
use mathlib.Core.Bool.{Bool}
use mathlib.Core.Path.{◌≡◌, sym, ◌∙◌}
use Rattle.inspection.proofs.side_sound.Reads as side-sound
use Rattle.inspection.proofs.is_sound.Reads as is_sound_lem

pub side_sound_determined : (κs : _) (a : _) (r r' : Bool) (s s' : _) → side-sound.Post κs a r s → side-sound.Post κs a r' s' → r ≡ r'
side_sound_determined κs a r r' s s' p q = p ∙ sym q

pub is_sound_determined : (κs : _) (a : _) (r r' : Bool) (s s' : _) → is_sound_lem.Post κs a r s → is_sound_lem.Post κs a r' s' → r ≡ r'
is_sound_determined κs a r r' s s' p q = p ∙ sym q
