use Rattle.std.proofs.Common.{◌≡◌, ◌++◌, ◌∙◌, List, ℕ, subst}
use Rattle.std.proofs.lemmas.Result.{IfOk-weaker}
use Rattle.gf_explain.specs.Explained.{IsWhere}
use Rattle.gf_explain.specs.FaultLine.{place_text}
use Rattle.gf_explain.proofs.text.refusal_explanation.Goals as goal

pub returns : goal.returns
returns c =
    let head = c.in_ok-line.line.items in
    let line : c.deref.result.now ≡ head ++ place_text c.args.fault.now =
    cc (
      c.deref.ensures.value,
      c.in_ok-extend_from_slice.ensures.items,
      c.as_slice.ensures,
      c.refusal_line.ensures.text,
    ) in
    IfOk-weaker c.said_after.result _ _ (λ text is. record {
      head = head;
      is_where = subst (λ (name : List ℕ). IsWhere c.args.fault.now name c.args.bytes.now head)
          (c.as_str.ensures.value ∙ c.in_ok-called.ensures) c.in_ok-line.ensures;
      is_text = record {
        rest = c.push_refusal.new.text;
        is_shown = c.said_after.ensures.shown;
        is_whole = c.in_ok-push_refusal.ensures;
        is_text = cc (is, line);
      };
    }) c.said_after.ensures.text
