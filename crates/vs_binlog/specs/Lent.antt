-- What a query that is lent from a body says.
use Rattle.vs_binlog.specs.declared.query.Query.{Query}
use Rattle.vs_binlog.specs.Bodies.{Said}

abbrev pub said_by : Query → Said
said_by query = record { schema = query.schema.now; text = query.text.now }
