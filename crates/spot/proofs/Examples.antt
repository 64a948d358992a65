-- Worked examples: the line and column of bytes of small texts.
use mathlib.Core.Path.{refl}
use Rattle.grammar.specs.Ascii.{ascii}
use Rattle.spot.specs.Spots.{SpotOf}

-- the end of a text without bytes
at_first : SpotOf (ascii "") 0 1 1
at_first = record { line_is = refl; column_is = refl }

-- a line feed is in the line that it ends
at_feed : SpotOf (ascii "a\nbc") 1 1 2
at_feed = record { line_is = refl; column_is = refl }

-- right after it the next line begins
after_feed : SpotOf (ascii "a\nbc") 2 2 1
after_feed = record { line_is = refl; column_is = refl }

in_second_lem : SpotOf (ascii "a\nbc") 3 2 2
in_second_lem = record { line_is = refl; column_is = refl }

-- the end of a text is in its last line, which has no bytes where the text ends with a line feed
at-end : SpotOf (ascii "a\nbc") 4 2 3
at-end = record { line_is = refl; column_is = refl }

after_last_feed : SpotOf (ascii "a\n\n") 3 3 1
after_last_feed = record { line_is = refl; column_is = refl }
