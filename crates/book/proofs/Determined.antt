-- Every public contract of the book determines its result and the bytes: any two outcomes that meet it are equal. A contract is
-- read here as the checker reads it from the source (`Post`), not from a copy. Assumes nothing.
use mathlib.Core.Bool.{Bool}
use mathlib.Core.Path.{◌≡◌, sym, ◌∙◌}
use Rattle.book.specs.declared.Book.{Book}
use Rattle.book.specs.declared.Reply.{Reply}
use Rattle.book.proofs.Book.fresh.Reads as fresh
use Rattle.book.proofs.Book.is_sound.Reads as is_sound_lem
use Rattle.book.proofs.Book.accept.Reads as accept
use Rattle.book.proofs.Book.cancel.Reads as cancel
use Rattle.book.proofs.Book.quote.Reads as quote
use Rattle.book.proofs.Book.close.Reads as close
use Rattle.book.proofs.Book.answer.Reads as answer

pub fresh_determined : (κs : _) (a : _) (r r' : Book) (s s' : _) → fresh.Post κs a r s → fresh.Post κs a r' s' → r ≡ r'
fresh_determined κs a r r' s s' p q = p ∙ sym q

pub is_sound_determined : (κs : _) (a : _) (r r' : Bool) (s s' : _) → is_sound_lem.Post κs a r s → is_sound_lem.Post κs a r' s' → r ≡ r'
is_sound_determined κs a r r' s s' p q = p ∙ sym q

pub accept_determined : (κs : _) (a : _) (r r' : Reply) (s s' : _) → accept.Post κs a r s → accept.Post κs a r' s'
    → (r ≡ r') × (s.1.1.1.1.0.now ≡ s'.1.1.1.1.0.now)
accept_determined κs a r r' s s' p q = (p.0 ∙ sym q.0, p.1 ∙ sym q.1)

pub cancel_determined : (κs : _) (a : _) (r r' : Reply) (s s' : _) → cancel.Post κs a r s → cancel.Post κs a r' s'
    → (r ≡ r') × (s.1.1.1.1.0.now ≡ s'.1.1.1.1.0.now)
cancel_determined κs a r r' s s' p q = (p.0 ∙ sym q.0, p.1 ∙ sym q.1)

pub quote_determined : (κs : _) (a : _) (r r' : Reply) (s s' : _) → quote.Post κs a r s → quote.Post κs a r' s'
    → (r ≡ r') × (s.1.1.1.1.0.now ≡ s'.1.1.1.1.0.now)
quote_determined κs a r r' s s' p q = (p.0 ∙ sym q.0, p.1 ∙ sym q.1)

pub close_determined : (κs : _) (a : _) (r r' : Reply) (s s' : _) → close.Post κs a r s → close.Post κs a r' s'
    → (r ≡ r') × (s.1.1.1.0.now ≡ s'.1.1.1.0.now)
close_determined κs a r r' s s' p q = (p.0 ∙ sym q.0, p.1 ∙ sym q.1)

pub answer_determined : (κs : _) (a : _) (r r' : Reply) (s s' : _) → answer.Post κs a r s → answer.Post κs a r' s'
    → (r ≡ r') × (s.1.1.0.now ≡ s'.1.1.0.now)
answer_determined κs a r r' s s' p q = (p.0 ∙ sym q.0, p.1 ∙ sym q.1)
