-- The result of an entry of the console, for private clauses.
use Rattle.std.specs.Prelude.{◌≡◌, Result, Ok, Err}
use Rattle.debug8.specs.declared.faults.DebugFault.{DebugFault}
use Rattle.debug8.specs.declared.faults.DebugFault.TheVariants.{TooManyBreaks, Memory}
use Rattle.script8.specs.declared.entries.ConsoleEntry.{ConsoleEntry}
use Rattle.script8.specs.declared.replies.Reply.{Reply}
use Rattle.system_session.specs.State.{Console}
use Rattle.system_session.specs.Console.{ConsoleReplies, IsBreakTooMany, TakesMemory}

-- The result of doing an entry at the console.
abbrev pub ConsoleDoes : ConsoleEntry → Console → Result Reply DebugFault → Console → Type 0
ConsoleDoes entry old (Ok reply) new = ConsoleReplies old entry reply new
ConsoleDoes entry old (Err TooManyBreaks) new = IsBreakTooMany old entry × (new ≡ old)
ConsoleDoes entry old (Err Memory) new = TakesMemory entry × (new ≡ old)
