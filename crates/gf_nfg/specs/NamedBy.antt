-- A table with its names or without.
use Rattle.gf_token.specs.NameBy.{name_by}
use Rattle.gf_token.specs.declared.names.Names.{Names}
use Rattle.gf_nfg.specs.Table.{Table}

abbrev pub named_by : Names → Table → Table
named_by names t = record t {
  title = name_by names t.title;
  comment = name_by names t.comment;
}
