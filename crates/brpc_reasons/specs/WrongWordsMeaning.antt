-- What a fault of the words means.
use Rattle.brpc_reasons.specs.WrongWords as model
use Rattle.brpc_reasons.specs.declared.wrong.WordsFault.{WordsFault}
use Rattle.brpc_reasons.specs.declared.wrong.WordsFault.TheVariants.{NoWord, NoCommand, Missing, Wrong, TooMany, TooMuch}

-- the fault that is meant
abbrev pub meaning : WordsFault → model.Fault
meaning NoWord = model.NoWord
meaning (NoCommand word) = model.NoCommand word.now
meaning (Missing form parameter) = model.Missing form parameter
meaning (Wrong form parameter word) = model.Wrong form parameter word.now
meaning (TooMany form word) = model.TooMany form word.now
meaning (TooMuch form clients operations) = model.TooMuch form clients operations
