-- Each contract of a side that is public or open to the crate determines its result, or the side that it leaves: any two outcomes that meet it
-- are equal. A contract is read here as the checker reads it from the source (`Post`), not from a copy. Left out is `follow_hint`, of which
-- the contract says only where a hint leads if it leads somewhere. Assumes nothing.
use Prim.Native.Nat.{ℕ}
use mathlib.Core.Bool.{Bool}
use mathlib.Core.List.{List}
use mathlib.Core.Path.{◌≡◌, sym, ◌∙◌}
use Rattle.std.specs.Prelude.{Option}
use Rattle.rules.specs.declared.Resting.{Resting}
use Rattle.side.proofs.table.Table.empty.Reads as its_empty
use Rattle.side.proofs.table.Table.len.Reads as its_len
use Rattle.side.proofs.table.Table.is_full.Reads as its_is_full
use Rattle.side.proofs.table.Table.at.Reads as its_at
use Rattle.side.proofs.table.Table.get.Reads as its_get
use Rattle.side.proofs.table.Table.level_at.Reads as its_level_at
use Rattle.side.proofs.table.Table.find.Reads as its_find
use Rattle.side.proofs.table.Table.place.Reads as its_place
use Rattle.side.proofs.table.Table.save.Reads as its_save
use Rattle.side.proofs.table.Table.clear.Reads as its_clear
use Rattle.side.proofs.table.Table.load.Reads as its_load
use Rattle.side.proofs.table.Table.insert.Reads as its_insert
use Rattle.side.proofs.table.Table.rest.Reads as its_rest
use Rattle.side.proofs.table.Table.remove.Reads as its_remove
use Rattle.side.proofs.table.Table.reduce.Reads as its_reduce
use Rattle.side.proofs.table.Table.close_up.Reads as its_close_up

pub empty_determined : (κs : _) (a : _) (r r' : List Resting) (s s' : _) → its_empty.Post κs a r s → its_empty.Post κs a r' s' → r ≡ r'
empty_determined κs a r r' s s' p q = p ∙ sym q

pub len_determined : (κs : _) (a : _) (r r' : ℕ) (s s' : _) → its_len.Post κs a r s → its_len.Post κs a r' s' → r ≡ r'
len_determined κs a r r' s s' p q = p.0 ∙ sym q.0

pub is_full_determined : (κs : _) (a : _) (r r' : Bool) (s s' : _) → its_is_full.Post κs a r s → its_is_full.Post κs a r' s' → r ≡ r'
is_full_determined κs a r r' s s' p q = p ∙ sym q

pub at_determined : (κs : _) (a : _) (r r' : Resting) (s s' : _) → its_at.Post κs a r s → its_at.Post κs a r' s' → r ≡ r'
at_determined κs a r r' s s' p q = p ∙ sym q

pub get_determined : (κs : _) (a : _) (r r' : Option Resting) (s s' : _) → its_get.Post κs a r s → its_get.Post κs a r' s' → r ≡ r'
get_determined κs a r r' s s' p q = p ∙ sym q

pub level_at_determined : (κs : _) (a : _) (r r' : ℕ) (s s' : _) → its_level_at.Post κs a r s → its_level_at.Post κs a r' s' → r ≡ r'
level_at_determined κs a r r' s s' p q = p ∙ sym q

pub find_determined : (κs : _) (a : _) (r r' : Option ℕ) (s s' : _) → its_find.Post κs a r s → its_find.Post κs a r' s' → r ≡ r'
find_determined κs a r r' s s' p q = p ∙ sym q

pub place_determined : (κs : _) (a : _) (r r' : ℕ) (s s' : _) → its_place.Post κs a r s → its_place.Post κs a r' s' → r ≡ r'
place_determined κs a r r' s s' p q = p ∙ sym q

pub save_determined : (κs : _) (a : _) (r r' : List Resting) (s s' : _) → its_save.Post κs a r s → its_save.Post κs a r' s' → r ≡ r'
save_determined κs a r r' s s' p q = p ∙ sym q

pub clear_determined : (κs : _) (a : _) (r r' : _) (s s' : _) → its_clear.Post κs a r s → its_clear.Post κs a r' s' → s.0.now ≡ s'.0.now
clear_determined κs a r r' s s' p q = p ∙ sym q

pub load_determined : (κs : _) (a : _) (r r' : _) (s s' : _) → its_load.Post κs a r s → its_load.Post κs a r' s' → s.0.now ≡ s'.0.now
load_determined κs a r r' s s' p q = p ∙ sym q

pub insert_determined : (κs : _) (a : _) (r r' : _) (s s' : _) → its_insert.Post κs a r s → its_insert.Post κs a r' s' → s.0.now ≡ s'.0.now
insert_determined κs a r r' s s' p q = p ∙ sym q

pub rest_determined : (κs : _) (a : _) (r r' : _) (s s' : _) → its_rest.Post κs a r s → its_rest.Post κs a r' s' → s.0.now ≡ s'.0.now
rest_determined κs a r r' s s' p q = p ∙ sym q

pub remove_determined : (κs : _) (a : _) (r r' : _) (s s' : _) → its_remove.Post κs a r s → its_remove.Post κs a r' s' → s.0.now ≡ s'.0.now
remove_determined κs a r r' s s' p q = p.0 ∙ sym q.0

pub reduce_determined : (κs : _) (a : _) (r r' : _) (s s' : _) → its_reduce.Post κs a r s → its_reduce.Post κs a r' s' → s.0.now ≡ s'.0.now
reduce_determined κs a r r' s s' p q = p ∙ sym q

pub close_up_determined : (κs : _) (a : _) (r r' : _) (s s' : _) → its_close_up.Post κs a r s → its_close_up.Post κs a r' s' → s.0.now ≡ s'.0.now
close_up_determined κs a r r' s s' p q = p ∙ sym q
