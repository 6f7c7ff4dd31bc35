-- Which fault ends a script, for a fault of its streams.
use Rattle.text_streams.specs.declared.faults.StreamFault.{StreamFault}
use Rattle.text_streams.specs.declared.faults.StreamFault.TheVariants as stream
use Rattle.front_scripts.specs.declared.faults.ScriptFault.{ScriptFault}
use Rattle.front_scripts.specs.declared.faults.ScriptFault.TheVariants as script

-- a script ends as its stream does
abbrev pub of_stream : StreamFault → ScriptFault
of_stream stream.Read = script.Read
of_stream stream.Write = script.Write
of_stream stream.Memory = script.Memory
of_stream stream.TooLong = script.TooLong
