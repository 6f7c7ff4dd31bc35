-- Which side of an output failed.
use Rattle.text_streams.specs.declared.faults.OutputFault.{OutputFault}
use Rattle.text_streams.specs.declared.faults.OutputFault.TheVariants.{Source, Stream}

-- what the output is made of couldn't be read
abbrev pub IsOfSource : {E : Type 0} → OutputFault E → Type 0
IsOfSource (Source inner) = Unit {0}
IsOfSource (Stream inner) = ⊥
