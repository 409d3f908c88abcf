-- That no message is left without a response (this product's own).
use Rattle.std.specs.Prelude.{◌≡◌, ℕ, true, is_some, List}
use Rattle.chf_core.specs.declared.command.Command.{Command}
use Rattle.chf_core.specs.After.{state_of}
use Rattle.chf_messages.specs.declared.method.Method.{Method}
use Rattle.chf_messages.specs.Answering.{message_response}
use Rattle.chf_messages.specs.Routing.{command_at}

-- Whatever commands were accepted before it, a message has a response, and so its line.
abbrev pub EachMessageIsAnswered : Type 0
EachMessageIsAnswered =
    (commands : List Command) (method : Method) (path body : List ℕ)
    → is_some (message_response (state_of commands) (command_at method path body)) ≡ true
