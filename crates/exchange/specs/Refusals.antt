-- The number of each refusal, as programs print it. Assumes nothing.
use Rattle.std.specs.Prelude.{ℕ}
use Rattle.exchange.specs.declared.refusal.Refusal.{Refusal}
use Rattle.exchange.specs.declared.refusal.Refusal.TheVariants.{TooLong, BadForm, BadNumber, BadParameters, NoElement, RowFull, LogFull, LogEmpty, NoPlace, NotReturning, ShortMemory, Stray, WrongCarrier}

abbrev pub number_of : Refusal → ℕ
number_of TooLong = 1
number_of BadForm = 2
number_of BadNumber = 3
number_of BadParameters = 4
number_of NoElement = 5
number_of RowFull = 6
number_of LogFull = 7
number_of LogEmpty = 8
number_of NoPlace = 9
number_of NotReturning = 10
number_of ShortMemory = 11
number_of Stray = 12
number_of WrongCarrier = 13
