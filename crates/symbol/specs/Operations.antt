-- The sum that each operation stands for.
use Rattle.symbol.specs.declared.Operation.{Operation}
use Rattle.symbol.specs.declared.Operation.TheVariants.{ExclusiveOr, Addition}
use Rattle.symbol.specs.Sum.{Sum}
use Rattle.symbol.specs.Xor.{xor}
use Rattle.symbol.specs.Words.{words}

abbrev pub sum_of : Operation → Sum
sum_of ExclusiveOr = xor
sum_of Addition = words
