-- The kinds of events, by their numbers.
use Rattle.std.specs.Prelude.{ℤ, if◌then◌else◌}
use Rattle.std.specs.Ordering.{int_eq}
use Rattle.vs_proto.specs.declared.event_kind.TheConstants.{BEGIN, COMMIT, DDL, OTHER, ROW, FIELD, HEARTBEAT, VGTID, JOURNAL, COPY_COMPLETED}
use Rattle.vs_show.specs.declared.kind.Kind.{Kind}
use Rattle.vs_show.specs.declared.kind.Kind.TheVariants.{Begin, Commit, Ddl, Other, Row, Field, Heartbeat, Vgtid, Journal, CopyCompleted, Unnamed}

unfoldable pub kind_of : ℤ → Kind
kind_of n =
    if int_eq n BEGIN then Begin else
    (if int_eq n COMMIT then Commit else
    (if int_eq n DDL then Ddl else
    (if int_eq n OTHER then Other else
    (if int_eq n ROW then Row else
    (if int_eq n FIELD then Field else
    (if int_eq n HEARTBEAT then Heartbeat else
    (if int_eq n VGTID then Vgtid else
    (if int_eq n JOURNAL then Journal else
    (if int_eq n COPY_COMPLETED then CopyCompleted else Unnamed)))))))))
