-- What is replied where a seat was answered (private).
use Rattle.std.specs.Prelude.{List, map}
use Rattle.cal_names.specs.declared.declare.Declared.{Declared}
use Rattle.cal_names.specs.declared.declare.Declared.TheVariants as declared
use Rattle.cal_naming.specs.declared.reply.NameReply.{NameReply}
use Rattle.cal_naming.specs.declared.reply.NameReply.TheVariants as reply

-- a reply has no place
abbrev pub reply_of : Declared → NameReply
reply_of (declared.Same place) = reply.Same
reply_of (declared.Different place kind props) = reply.Different kind props

abbrev pub replies_to : List Declared → List NameReply
replies_to answers = map reply_of answers

abbrev pub all_replies : List (List Declared) → List (List NameReply)
all_replies answers = map replies_to answers
