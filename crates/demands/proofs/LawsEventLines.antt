-- Event lines, read back: the line of an event whose fields fit their widths tells that very event, the line of a refusal tells
-- none, and lines one after the other are read one by one. Assumes nothing.
use Prim.Native.Nat.{ℕ}
use mathlib.Core.List.{List, [], ◌∷◌, ◌++◌, append_assoc}
use mathlib.Core.Path.{◌≡◌, refl, ap, ◌∙◌}
use Rattle.basics.specs.Lists.{All, none, also}
use Rattle.rules.specs.declared.Event.{Event}
use Rattle.rules.specs.CommandLines.{written, line, line_feed}
use Rattle.rules.specs.Day.{lines_in}
use Rattle.rules.specs.EventLines.{FitsEvent, event_form, event_numbers, event_line, event_lines, refusal_kind, refusal_form, refusal_line}
use Rattle.rules.specs.EventReading.{event_in}
use Rattle.rules.proofs.LawsDay.{first_line_lem}
use Rattle.rules.proofs.LawsEventReading.{event_in_event_line, event_in_refusal_line}
use Rattle.rules.proofs.LawsUnended.{written_unended}
use Rattle.demands.specs.Told.{read_as, events_on, events_in}

-- ── Lines one after the other ──

-- a line ends at its own line feed, for its digits hold none: so the line of a form is the first of the lines that it begins
pub line_first : (form ns rest : List ℕ) → lines_in (line form ns ++ rest) ≡ line form ns ∷ lines_in rest
line_first form ns rest = ap lines_in (append_assoc (written form ns) (line_feed ∷ []) rest) ∙ first_line_lem rest (written_unended form ns)

-- .. and is read by itself, and then what follows is
line_read : (form ns rest : List ℕ) → events_in (line form ns ++ rest) ≡ read_as (event_in (line form ns)) ++ events_in rest
unfolding events_on
line_read form ns rest = ap events_on (line_first form ns rest)

pub event_line_read : (e : Event) (rest : List ℕ) → events_in (event_line e ++ rest) ≡ read_as (event_in (event_line e)) ++ events_in rest
unfolding event_line
event_line_read e rest = line_read (event_form e) (event_numbers e) rest

-- event lines tell their events, and then what follows is read
pub events_read : {es : List Event} (rest : List ℕ) → All FitsEvent es → events_in (event_lines es ++ rest) ≡ es ++ events_in rest
unfolding event_lines
events_read rest none = refl
events_read rest (also {x = e} {s = es} f a) =
    ap events_in (append_assoc (event_line e) (event_lines es) rest)
    ∙ rw (event_line_read e (event_lines es ++ rest), event_in_event_line e f, events_read rest a) refl

-- the line of a refusal tells nothing, and then what follows is read
pub refusal_read : (k : ℕ) (rest : List ℕ) → events_in (refusal_line k ++ rest) ≡ events_in rest
unfolding refusal_line
refusal_read k rest = rw (line_read refusal_form (refusal_kind ∷ k ∷ []) rest, event_in_refusal_line k) refl
