use Rattle.std.proofs.Common.{◌∙◌, refl, sym}
use Rattle.gf_calls.specs.Written.{written}
use Rattle.gf_calls.proofs.canonising.write_hash.Goals as goal

pub returns-in-Ok-hash_of : goal.returns-in-Ok-hash_of
returns-in-Ok-hash_of c = rw (sym c.names_by.ensures, c.in-Some.is)
    (written c.as_bytes.result.now
    (record {
      text = c.in-Ok.text.rest;
      is_text = c.in-Ok.ensures.text;
      is_digest = c.as_bytes.ensures.value ∙ c.in-Ok-hash_of.ensures;
    }) c.hand_out.ensures refl)
