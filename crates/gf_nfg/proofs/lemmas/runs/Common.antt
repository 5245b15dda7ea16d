-- What the lemmas on runs of the machine share.
use Rattle.gf_nfg.proofs.Common.{List, Ok, Result, State, Token, Why, start, step, ◌≡◌}
use Rattle.gf_token.specs.Offered as any_format

abbrev pub ok_why : {A : Type 0} → A → Result A Why
ok_why x = Ok x

pub ok_is : {A : Type 0} (x y : A) → ok_why x ≡ ok_why y → x ≡ y
ok_is x y e = cc

-- ---- where tokens lead the machine

abbrev pub walk : State → List Token → Result State Why
walk = any_format.walk step

-- from the start
abbrev pub Leads : List Token → State → Type 0
Leads ts s = walk start ts ≡ Ok s
