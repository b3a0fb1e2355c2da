-- A side by value and the places of 01 are one thing, field by field.
use Rattle.rules.specs.Book.{Places}
use Rattle.side.specs.declared.tables.Side.{Side}

abbrev pub places_on : Side → Places
places_on s = record { used = s.used; places = s.places }

abbrev pub side_with : Places → Side
side_with p = record { used = p.used; places = p.places }
