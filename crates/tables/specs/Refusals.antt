-- Document 01, "Who can cause a refusal": each refusal, its number and its three numbers, 0 where nothing is named.
-- Assumes nothing.
use Rattle.std.specs.Prelude.{List, ℕ, Result, Ok, Err}
use Rattle.std.specs.Prelude.{Option, None as none, Some as some}
use Rattle.base.specs.Buffers.{written}
use Rattle.tables.specs.declared.Numbers.{Numbers}
use Rattle.tables.specs.declared.Refusal.{Refusal}
use Rattle.tables.specs.declared.Refusal.TheVariants.{Ragged, TooMany, BadByte, NoBox, AcrossSides, WrongEnds, WrongMode, NoMode}
use Rattle.tables.specs.declared.Refusal.TheVariants.{TooShort, InItself, NotAtomic, UnclearPair, NoOrder}
use Rattle.tables.specs.declared.Refusal.TheVariants.{BadLength, BadCheck, BadHead, BadFiller}

abbrev pub numbers : (number a b c : ℕ) → Numbers
numbers number a b c = record { number = number; first = a; second = b; third = c }

abbrev pub numbers_of : (r : Refusal) → Numbers
-- ragged: table (0 boxes, 1 containments, 2 arrows), length
numbers_of (Ragged table len) = numbers 1 table len 0
-- too many rows: table, count
numbers_of (TooMany table count) = numbers 2 table count 0
-- box byte above 3: box
numbers_of (BadByte box) = numbers 3 box 0 0
-- containment naming a box that isn't there: row
numbers_of (NoBox row) = numbers 4 row 0 0
-- containment across sides: row
numbers_of (AcrossSides row) = numbers 5 row 0 0
-- arrow whose tail is no user box or head no file box: row
numbers_of (WrongEnds row) = numbers 6 row 0 0
-- arrow mode above 7 or sign above 1: row
numbers_of (WrongMode row) = numbers 7 row 0 0
-- asked mode above 7: the mode
numbers_of (NoMode mode) = numbers 8 mode 0 0
-- buffer too short: buffer, length needed
numbers_of (TooShort buffer need) = numbers 9 buffer need 0
-- a box contains itself: lowest such box
numbers_of (InItself box) = numbers 10 box 0 0
-- the asked user or file isn't an atomic box of that side: user, file
numbers_of (NotAtomic u f) = numbers 11 u f 0
-- the mode has an unclear pair: mode, user, file of the first
numbers_of (UnclearPair mode u f) = numbers 12 mode u f
-- no order: mode, user, file of the granted pair that the third condition names
numbers_of (NoOrder mode u f) = numbers 13 mode u f
-- file length 0, not a multiple of 512, or above 32,768: the length
numbers_of (BadLength len) = numbers 14 len 0 0
-- block check wrong: block
numbers_of (BadCheck block) = numbers 15 block 0 0
-- block head wrong: block
numbers_of (BadHead block) = numbers 16 block 0 0
-- filler not zero: block
numbers_of (BadFiller block) = numbers 17 block 0 0

-- what a call answers, by the fault that was found, if any
abbrev pub verdict_of : (fault : Option Refusal) → Result Unit Refusal
verdict_of none = Ok tt
verdict_of (some r) = Err r

-- what lent places hold at the end: a refusal leaves them as they were; else the first hold the new values, and places beyond are as
-- they were
abbrev pub unless_refused : (fault : Option Refusal) (new old : List ℕ) → List ℕ
unless_refused none new old = written new old
unless_refused (some r) new old = old
