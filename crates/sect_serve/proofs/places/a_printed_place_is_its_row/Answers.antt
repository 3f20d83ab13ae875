-- the law stands in the lemmas
use Rattle.sect_serve.proofs.PlaceLaws.{places_are_rows}
use Rattle.sect_serve.proofs.places.a_printed_place_is_its_row.Goals as goal

pub returns : goal.returns
returns g c =
    places_are_rows g.O.Object.start g.O.Object.stepped g.O.Object.is_row g.O.Object.looked g.K.Keeper.rows g.K.Keeper.faults g.L.In.Source.left g.L.Out.Sink.taken g.L.In.Source.faults g.L.Out.Sink.faults g.L.Link.connections g.L.Link.faults
