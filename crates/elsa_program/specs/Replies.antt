-- The meaning of the engine's requests and replies.
use Rattle.std.specs.Prelude.{ℕ, List}
use Rattle.std.specs.Fmt.{decimal}
use Rattle.elsa_program.specs.declared.request.Request.{Request}
use Rattle.elsa_program.specs.declared.request.Request.TheVariants.{Put, Find, At, Len, Bad}
use Rattle.elsa_program.specs.declared.reply.Reply.{Reply}
use Rattle.elsa_program.specs.declared.reply.Reply.TheVariants.{Number, Text}
use Rattle.elsa_program.specs.Lines.{Command, put, find, at, len, bad}

-- The command that a request is.
abbrev pub asked : Request → Command
asked (Put name) = put name.now
asked (Find name) = find name.now
asked (At n) = at n
asked Len = len
asked Bad = bad

-- The text of a reply.
abbrev pub reply_text : Reply → List ℕ
reply_text (Number n) = decimal n
reply_text (Text text) = text.now
