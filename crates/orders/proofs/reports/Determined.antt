-- Each public contract determines its result and its bytes: any two outcomes that meet it are equal. A contract is read here
-- as the checker reads it from the source (`Post`), not from a copy. Assumes nothing.
use mathlib.Core.Path.{◌≡◌, sym, ◌∙◌}
use Prim.Native.Nat.{ℕ}
use Rattle.orders.proofs.reports.report.Reads as report
use Rattle.orders.proofs.reports.report_cancelled.Reads as report-cancelled

pub report_determined : (κs : _) (a : _) (r r' : ℕ) (s s' : _) → report.Post κs a r s → report.Post κs a r' s'
    → (r ≡ r') × (s.1.1.1.1.1.0.now ≡ s'.1.1.1.1.1.0.now)
report_determined κs a r r' s s' p q = (p.0 ∙ sym q.0, p.1 ∙ sym q.1)

pub report_cancelled_determined : (κs : _) (a : _) (r r' : ℕ) (s s' : _) → report-cancelled.Post κs a r s → report-cancelled.Post κs a r' s'
    → (r ≡ r') × (s.1.1.0.now ≡ s'.1.1.0.now)
report_cancelled_determined κs a r r' s s' p q = (p.0 ∙ sym q.0, p.1 ∙ sym q.1)
