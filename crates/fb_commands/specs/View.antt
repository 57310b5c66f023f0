-- A command of the program as a command of the definitions.
-- This project's own choice.
use Rattle.edn_form.specs.View.{form_of, forms_of}
use Rattle.talk_model.specs.Commands as model
use Rattle.fb_commands.specs.declared.commands.Look.{Look}
use Rattle.fb_commands.specs.declared.commands.Look.TheVariants.{Datoms, Seek, IndexRange, TxRange}
use Rattle.fb_commands.specs.declared.commands.Look.TheVariants.{Pull}
use Rattle.fb_commands.specs.declared.commands.Turn.{Turn}
use Rattle.fb_commands.specs.declared.commands.Turn.TheVariants.{AsOf, Since, History, Filter}
use Rattle.fb_commands.specs.declared.commands.Turn.TheVariants.{Unfilter}
use Rattle.fb_commands.specs.declared.commands.Read.{Read}
use Rattle.fb_commands.specs.declared.commands.Read.TheVariants as a_read
use Rattle.fb_commands.specs.declared.commands.Command.{Command}
use Rattle.fb_commands.specs.declared.commands.Command.TheVariants as a_command

abbrev pub model_look : Look → model.Look
model_look (Datoms order components) = model.datoms order (forms_of components.now)
model_look (Seek order components) = model.seek order (forms_of components.now)
model_look (IndexRange a start end) =
    model.index_range (form_of a.now) (form_of start.now) (form_of end.now)
model_look (TxRange start end) = model.tx_range (form_of start.now) (form_of end.now)
model_look (Pull pattern entity) = model.pull (form_of pattern.now) (form_of entity.now)

abbrev pub model_turn : Turn → model.Turn
model_turn (AsOf point) = model.as_of (form_of point.now)
model_turn (Since point) = model.since (form_of point.now)
model_turn History = model.history
model_turn (Filter name) = model.filter name.now
model_turn Unfilter = model.unfilter

abbrev pub model_read : Read → model.Read
model_read (a_read.Look look) = model.look (model_look look)
model_read (a_read.Tried datas look) = model.tried (forms_of datas.now) (model_look look)
model_read (a_read.Tuples names start end) =
    model.tuples (form_of names.now) (form_of start.now) (form_of end.now)
model_read (a_read.Turn turn) = model.turn (model_turn turn)
model_read a_read.RequestIndex = model.request_index

abbrev pub model_command : Command → model.Command
model_command (a_command.Transact forms) = model.transact (form_of forms.now)
model_command a_command.Db = model.db
model_command a_command.Sync = model.sync
model_command (a_command.Read read) = model.read (model_read read)
