-- The exit status of a run.
use Rattle.std.specs.Prelude.{ℕ}
use Rattle.command_engine.specs.declared.endings.End.{End}
use Rattle.command_engine.specs.declared.endings.End.TheVariants.{Done, Refused, Fault, Limit, EventRefused}
use Rattle.command_engine.specs.declared.endings.Status.{Status}
use Rattle.command_engine.specs.declared.endings.Status.TheVariants.{Ended, ReadFault, WriteFault, NoMemory}

-- the status of a run that a command ended
abbrev pub end_number : End → ℕ
end_number Done = 0
end_number Refused = 1
end_number Fault = 3
end_number Limit = 4
end_number EventRefused = 7

-- the status of a run; that of words that are those of no command, 2, is no status of a run
abbrev pub status_number : Status → ℕ
status_number (Ended end) = end_number end
status_number ReadFault = 5
status_number WriteFault = 6
status_number NoMemory = 8
