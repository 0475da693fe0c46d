-- The number of each refusal (01, Numbers a call can answer with; 02, Req 01 for 22). Assumes nothing.
use Rattle.std.specs.Prelude.{ℕ}
use Rattle.refusal.specs.declared.Refusal.{Refusal}
use Rattle.refusal.specs.declared.Refusal.TheVariants.{TooShort, WrongKind, WrongEntries, WrongPlaces, OutOfRange, NoDoor, TooLight, NoOrder, FewCells, ShortBuffer, ShortLayer, IllFormed, NotInSheet, DoneTwice, ReceiverFirst, WrongCost}

-- the number of a refusal
abbrev pub number_of : Refusal → ℕ
number_of TooShort = 10
number_of WrongKind = 11
number_of WrongEntries = 12
number_of WrongPlaces = 13
number_of OutOfRange = 14
number_of NoDoor = 15
number_of TooLight = 16
number_of NoOrder = 17
number_of FewCells = 20
number_of ShortBuffer = 21
number_of ShortLayer = 22
number_of IllFormed = 30
number_of NotInSheet = 31
number_of DoneTwice = 32
number_of ReceiverFirst = 33
number_of WrongCost = 34
