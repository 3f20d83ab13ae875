-- a database may be sent, by its parts
use denote.Param.Send.{IsSend, sendable}
use denote.Param.SendFields.{declared_send}
use Rattle.std.proofs.Crossing.{crosses}
use Rattle.sect_real.specs.contracts.database.SqliteKeeper as SqliteKeeper
use Rattle.sect_real.specs.contracts.window.Window as Window
use Rattle.desk.proofs.sending.database_may_be_sent.Goals as goal

window-send : IsSend Window.the_row
window-send = search (sendable, crosses) depth 20

pub returns : goal.returns
returns c =
    declared_send SqliteKeeper.the_type (search (sendable, crosses) depth 40, (search sendable, (window-send, (search sendable, tt))))
