-- A JSON value with whole numbers (RFC 8259, section 3). Texts and names are lists of their bytes in UTF-8.
use Rattle.std.proofs.Common.{ap}
use Rattle.std.specs.Coded.{Coded, coded_bool, coded_list, coded_ℕ, coded_ℤ}
use Rattle.std.specs.Fmt.{signed_decimal}
use Rattle.std.specs.List.{flat_map}
use Rattle.std.specs.Prelude.{ℕ, ℤ, pos, negsuc, ◌≤ℤ◌, Bool, List, ◌≡◌, refl, ⊤, ◌+◌, ◌/◌, ◌%◌, [], ◌∷◌, ◌++◌, true, false, ◌==◌, nat_lt, if◌then◌else◌, codes}
use Rattle.std.specs.Str.{IsUtf8}
use Rattle.std.specs.declared.cmp.Ordering.TheVariants.{Less}
use base.Stored.{Gv, gnil, gnum, gcons}
use Rattle.st_plain.specs.Names.{name_cmp}

-- from -(2^53 - 1) to 2^53 - 1, which every reader represents (RFC 7493, section 2.2)
abbrev pub IsWhole : ℤ → Type 0
IsWhole z = (negsuc 9007199254740990 ≤ℤ z) × (z ≤ℤ pos 9007199254740991)

mutual
  pub data Plain : Type 0 where
    null : Plain
    boolean : Bool → Plain
    whole : ℤ → Plain
    text : List ℕ → Plain
    list : Items → Plain
    object : Members → Plain

  pub data Items : Type 0 where
    no_items : Items
    item : Plain → Items → Items

  pub data Members : Type 0 where
    no_members : Members
    member : List ℕ → Plain → Members → Members

-- ---- How the logic stores plain JSON values: as trees of numbers, a different one for each value.

-- bytes by their numbers
abbrev pub coded_bytes : Coded (List ℕ)
coded_bytes = coded_list coded_ℕ

-- a value by its kind and content
abbrev mutual
  code_plain : Plain → Gv
  code_plain null = gnil
  code_plain (boolean b) = gcons gnil (coded_bool.code b)
  code_plain (whole z) = gcons (gnum 0) (coded_ℤ.code z)
  code_plain (text t) = gcons (gcons gnil gnil) (coded_bytes.code t)
  code_plain (list ps) = gcons (gcons (gnum 0) gnil) (code_items ps)
  code_plain (object ms) = gcons (gcons gnil (gnum 0)) (code_members ms)

  code_items : Items → Gv
  code_items no_items = gnil
  code_items (item p ps) = gcons (code_plain p) (code_items ps)

  code_members : Members → Gv
  code_members no_members = gnil
  code_members (member k p ms) = gcons (coded_bytes.code k) (gcons (code_plain p) (code_members ms))

abbrev left : Gv → Gv
left gnil = gnil
left (gnum n) = gnil
left (gcons a b) = a

abbrev right : Gv → Gv
right gnil = gnil
right (gnum n) = gnil
right (gcons a b) = b

-- different values have different trees
mutual
  pub inj_plain : (p q : Plain) → code_plain p ≡ code_plain q → p ≡ q
  inj_plain null null e = refl
  inj_plain null (boolean b') e = cc
  inj_plain null (whole z') e = cc
  inj_plain null (text t') e = cc
  inj_plain null (list ps') e = cc
  inj_plain null (object ms') e = cc
  inj_plain (boolean b) null e = cc
  inj_plain (boolean b) (boolean b') e = ap boolean (coded_bool.inj b b' (ap right e))
  inj_plain (boolean b) (whole z') e = cc
  inj_plain (boolean b) (text t') e = cc
  inj_plain (boolean b) (list ps') e = cc
  inj_plain (boolean b) (object ms') e = cc
  inj_plain (whole z) null e = cc
  inj_plain (whole z) (boolean b') e = cc
  inj_plain (whole z) (whole z') e = ap whole (coded_ℤ.inj z z' (ap right e))
  inj_plain (whole z) (text t') e = cc
  inj_plain (whole z) (list ps') e = cc
  inj_plain (whole z) (object ms') e = cc
  inj_plain (text t) null e = cc
  inj_plain (text t) (boolean b') e = cc
  inj_plain (text t) (whole z') e = cc
  inj_plain (text t) (text t') e = ap text (coded_bytes.inj t t' (ap right e))
  inj_plain (text t) (list ps') e = cc
  inj_plain (text t) (object ms') e = cc
  inj_plain (list ps) null e = cc
  inj_plain (list ps) (boolean b') e = cc
  inj_plain (list ps) (whole z') e = cc
  inj_plain (list ps) (text t') e = cc
  inj_plain (list ps) (list ps') e = ap list (inj_items ps ps' (ap right e))
  inj_plain (list ps) (object ms') e = cc
  inj_plain (object ms) null e = cc
  inj_plain (object ms) (boolean b') e = cc
  inj_plain (object ms) (whole z') e = cc
  inj_plain (object ms) (text t') e = cc
  inj_plain (object ms) (list ps') e = cc
  inj_plain (object ms) (object ms') e = ap object (inj_members ms ms' (ap right e))

  pub inj_items : (ps qs : Items) → code_items ps ≡ code_items qs → ps ≡ qs
  inj_items no_items no_items e = refl
  inj_items no_items (item q qs) e = cc
  inj_items (item p ps) no_items e = cc
  inj_items (item p ps) (item q qs) e =
      let first : p ≡ q = inj_plain p q (ap left e) in
      let rest : ps ≡ qs = inj_items ps qs (ap right e) in
      cc

  pub inj_members : (ms ns : Members) → code_members ms ≡ code_members ns → ms ≡ ns
  inj_members no_members no_members e = refl
  inj_members no_members (member k q ns) e = cc
  inj_members (member k p ms) no_members e = cc
  inj_members (member k p ms) (member l q ns) e =
      let name : k ≡ l = coded_bytes.inj k l (ap left e) in
      let first : p ≡ q = inj_plain p q (ap left (ap right e)) in
      let rest : ms ≡ ns = inj_members ms ns (ap right (ap right e)) in
      cc

-- a plain value by its tree
abbrev pub coded_plain : Coded Plain
coded_plain = record { code = code_plain; inj = inj_plain }

-- members by their tree
abbrev pub coded_members : Coded Members
coded_members = record { code = code_members; inj = inj_members }

-- ---- What holds of each plain value that a `Json` represents: its texts are UTF-8, its numbers whole, and at each level
-- the names ascend.

-- each of the names is above this one
abbrev pub AllAbove : List ℕ → Members → Type 0
AllAbove name no_members = ⊤
AllAbove name (member n p ms) = (name_cmp name n ≡ Less) × AllAbove name ms

abbrev mutual
  pub IsProper : Plain → Type 0
  IsProper null = ⊤
  IsProper (boolean b) = ⊤
  IsProper (whole z) = IsWhole z
  IsProper (text t) = IsUtf8 t
  IsProper (list ps) = ItemsAreProper ps
  IsProper (object ms) = MembersAreProper ms

  pub ItemsAreProper : Items → Type 0
  ItemsAreProper no_items = ⊤
  ItemsAreProper (item p ps) = IsProper p × ItemsAreProper ps

  pub MembersAreProper : Members → Type 0
  MembersAreProper no_members = ⊤
  MembersAreProper (member n p ms) = IsUtf8 n × AllAbove n ms × IsProper p × MembersAreProper ms

-- ---- The canonical text of a value (RFC 8785), in UTF-8.

-- a digit in base 16, in lower case
abbrev pub hex_digit : ℕ → ℕ
hex_digit d = if nat_lt d 10 then 48 + d else 87 + d

-- A byte of a text (RFC 8785, section 3.2.2.2): `"`, `\` and the control characters are escaped.
unfoldable pub escape : ℕ → List ℕ
escape b = if b == 34 then codes "\\\"" else
    if b == 92 then codes "\\\\" else
    if b == 8 then codes "\\b" else
    if b == 9 then codes "\\t" else
    if b == 10 then codes "\\n" else
    if b == 12 then codes "\\f" else
    if b == 13 then codes "\\r" else
    if nat_lt b 32 then codes "\\u00" ++ hex_digit (b / 16) ∷ hex_digit (b % 16) ∷ [] else
    b ∷ []

-- a string in JSON, between quotation marks (RFC 8785, section 3.2.2.2)
abbrev pub quoted : List ℕ → List ℕ
quoted t = 34 ∷ (flat_map escape t ++ 34 ∷ [])

-- a comma, if something precedes
abbrev pub comma : Bool → List ℕ
comma false = []
comma true = 44 ∷ []

-- No white space (section 3.2.1), whole numbers in decimal (section 3.2.2.3); the members of a value are already in
-- order (section 3.2.3).
abbrev mutual
  pub canonical : Plain → List ℕ
  canonical null = codes "null"
  canonical (boolean b) = if b then codes "true" else codes "false"
  canonical (whole z) = signed_decimal z
  canonical (text t) = quoted t
  canonical (list ps) = 91 ∷ (canonical_items false ps ++ 93 ∷ [])
  canonical (object ms) = 123 ∷ (canonical_members false ms ++ 125 ∷ [])

  pub canonical_items : Bool → Items → List ℕ
  canonical_items b no_items = []
  canonical_items b (item p ps) = comma b ++ (canonical p ++ canonical_items true ps)

  pub canonical_members : Bool → Members → List ℕ
  canonical_members b no_members = []
  canonical_members b (member k p ms) = comma b ++ (quoted k ++ (58 ∷ (canonical p ++ canonical_members true ms)))
