-- The limit place is where the machine passes the limit, and there all files that begin with the
-- tokens through it are above the limit.
use Rattle.gf_nfg.proofs.Common.{BeginsPastLimit, IsBareOrClosing, IsLimitByFiles, IsLimitPlace}
use Rattle.gf_nfg.proofs.Common.{List, Ok, Span, State, StaysWithinLimit, Token, append_assoc}
use Rattle.gf_nfg.proofs.Common.{arith, cases_lt, inl, inr, profile_limit, refl, start, step, subst}
use Rattle.gf_nfg.proofs.Common.{sym, tokens_of, ℕ, [], ◌++◌, ◌<◌, ◌∙◌, ◌∷◌, ◌≡◌, ◌↔◌}
use Rattle.gf_nfg.specs.LimitPlace.{PassesLimit}
use Rattle.gf_nfg.proofs.lemmas.places.Led.{IsWithin, begins_within, changes, is_reader}
use Rattle.gf_nfg.proofs.lemmas.places.Led.{read_past, stays_within}
use Rattle.gf_nfg.proofs.lemmas.places.Rows.{follows}
use Rattle.gf_nfg.proofs.lemmas.runs.Common.{Leads, ok_is, walk}
use Rattle.gf_token.proofs.Offered.{begins, leads, stands, walks, then_ok, walk_more, walk_split}

-- a token at which the machine passes the limit
pub record Passes (ts : List Token) (t : Token) : Type 0 where
  pub mid : State
  pub after : State
  pub leads : Leads ts mid
  pub steps : step mid t ≡ Ok after
  pub within : IsWithin mid
  pub over : profile_limit < after.content.profiles

-- ---- by places

pub machine_passes : (ts : List Token) (t : Token) → PassesLimit ts t → Passes ts t
machine_passes ts t h =
    let b = walks follows (ts ++ t ∷ []) h.1 h.3 in
    grind (arith, walks follows ts h.0 h.2, walk_split step ts (t ∷ []) start b.0 b.1)

pub places_pass : (ts : List Token) (t : Token) → Passes ts t → PassesLimit ts t
places_pass ts t h =
    let more = walk_more step ts t start h.mid h.after h.leads h.steps in
    (_, _, stands follows ts h.mid h.leads, stands follows _ h.after more, h.within, h.over)

-- ---- by files

-- where files stay within the limit, so does the machine
within_from : (done ts : List Token) (s after : State) → Leads done s → walk s ts ≡ Ok after
    → IsWithin s → StaysWithinLimit (done ++ ts) → IsWithin after
within_from done [] s after l e few stays = subst IsWithin (ok_is s after e) few
within_from done (t ∷ ts) s after l e few stays =
    let h = then_ok (step s t) (λ x. walk x ts) after e in
    let m = walk_more step done t start s h.0 l h.1 in
    let fits : IsWithin h.0 = elim (cases_lt profile_limit h.0.content.profiles) [
      | inl more ↦
          let b = stays done ts t refl ((changes s h.0 t h.1).makes_more (omega (arith, few, more))) in
          omega (arith, read_past (done ++ t ∷ []) h.0 m b.0 b.1 b.2, b.3)
      | inr less ↦ less
    ] in
    within_from (done ++ t ∷ []) ts h.0 after m h.2 fits
    (subst StaysWithinLimit (sym (append_assoc done (t ∷ []) ts)) stays)

machine_at : (ts : List Token) (t : Token) → IsBareOrClosing t → BeginsPastLimit (ts ++ t ∷ [])
    → StaysWithinLimit ts → Passes ts t
machine_at ts t grows past first =
    let whole = ts ++ t ∷ [] in
    let l = leads is_reader whole past.begins in
    let m = walk_split step ts (t ∷ []) start l.0 l.1 in
    let n = then_ok (step m.0 t) (λ x. walk x []) l.0 m.2 in
    let steps = n.1 ∙ n.2 in
    record {
      mid = m.0;
      after = l.0;
      leads = m.1;
      steps = steps;
      within = within_from [] ts start m.0 refl m.1 (omega arith) first;
      over = elim (cases_lt profile_limit l.0.content.profiles) [
        | inl more ↦ more
        | inr less ↦
            let settled = (changes m.0 l.0 t steps).settles grows in
            let b = begins_within whole l.0 l.1 (omega (arith, less, settled)) in
            omega (arith, past.past b.0 b.1 b.2, b.3)
      ];
    }

pub limit_by_files : (bytes : List ℕ) (span : Span)
    → IsLimitPlace bytes span ↔ IsLimitByFiles bytes span
limit_by_files bytes span = (
  λ h.
      let ts = tokens_of h.before in
      let t = h.lexeme.token in
      let p = machine_passes ts t h.passes in
      let whole = walk_more step ts t start p.mid p.after p.leads p.steps in
      record {
        before = h.before;
        lexeme = h.lexeme;
        after = h.after;
        spelled = h.spelled;
        place = h.place;
        grows = (changes p.mid p.after t p.steps).makes_more (omega (arith, p.within, p.over));
        past = record {
          begins = begins is_reader (ts ++ t ∷ []) p.after whole;
          past = λ more table sentence.
              omega (arith, p.over, read_past (ts ++ t ∷ []) p.after whole more table sentence);
        };
        first = stays_within ts p.mid p.leads p.within;
      },
  λ h. record {
    before = h.before;
    lexeme = h.lexeme;
    after = h.after;
    spelled = h.spelled;
    place = h.place;
    passes = places_pass (tokens_of h.before) h.lexeme.token
        (machine_at (tokens_of h.before) h.lexeme.token h.grows h.past h.first);
  },
)
