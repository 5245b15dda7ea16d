use Rattle.gf_tree.proofs.Common.{refl, rules, label_of}
use Rattle.gf_tree.proofs.lemmas.reader.Telling.{told_goes}

pub returns : Rattle.gf_tree.proofs.reader.Reader.tell.Goals.returns
returns g c = record {
  goes = told_goes c.args.self.now c.max-self.result c.max-self-2.result
      (record { name = label_of c.args.name; set = c.args.set; outcome = c.args.outcome });
  kept = refl;
  told = c.in-Ok.ensures;
  told_sets = search rules;
  told_outcomes = search rules;
}
