-- What is lent from bodies, as what the bodies say.
use Rattle.vs_rows.specs.declared.layout.MapBody.{MapBody}
use Rattle.vs_rows.specs.declared.layout.RowsBody.{RowsBody}
use Rattle.vs_rows.specs.Layouts.{MapSaid, RowsSaid}

abbrev pub map_lent : MapBody → MapSaid
map_lent m = record { id = m.id; schema = m.schema.now; table = m.table.now; types = m.types.now; metadata = m.metadata.now }

abbrev pub rows_lent : RowsBody → RowsSaid
rows_lent r = record { id = r.id; width = r.width; present = r.present.now; rows = r.rows.now }
