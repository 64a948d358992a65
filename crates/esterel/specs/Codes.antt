-- Sets of completion codes and their 64-bit words (document 01, "Codes") are defined in crates/codes/specs/Codes.antt, which the code
-- on sets cites too, and in Theorems.antt there what it means that a number represents a set (F-7). They are passed on here, so that this
-- folder has all that document 01 defines.
pub use Rattle.codes.specs.Codes.{Codes, empty, only, union, given, without_ended, up_to, larger, catch_code, caught, meets, under_trap, under_parallel, bit}
unfoldable pub use Rattle.codes.specs.Codes.{word}
pub use Rattle.codes.specs.Theorems.{AtMost, Represents}
