-- Values that are related and hold no function of the program are equal.
use Rattle.std.proofs.Common.{◌≡◌, true, ◌&&◌, refl, ap, ap₂}
use Rattle.std.proofs.lemmas.Bool.{false≢true, and_parts}
use Rattle.swc_ast.specs.Value.{Value, Undefined, Null, NaN, TypeError, ScriptThis, Truth, Num, Text, Items, Record, Function, Token, Own, Values, ∅, ◌▹◌, Fields, nofield, field, is_data, all_data, fields_data}
use Rattle.rename_proofs.proofs.Relation.{Pairing, V, Vs, Fs, undefined, null, nan, type_error, script_this, truth, num, text, items, entries, function, token, own, no_value, value, no_entry, entry}

module _ {P : Pairing} where
  -- a value without functions is related to itself
  mutual
    pub data_same : (v : Value) → is_data v ≡ true → V P v v
    data_same Undefined e = undefined
    data_same Null e = null
    data_same NaN e = nan
    data_same TypeError e = type_error
    data_same ScriptThis e = absurd (false≢true e)
    data_same (Truth b) e = truth b
    data_same (Num z) e = num z
    data_same (Text t) e = text t
    data_same (Items vs) e = items (all_data_same vs e)
    data_same (Record fs) e = entries (fields_data_same fs e)
    data_same (Function f d t) e = absurd (false≢true e)
    data_same (Token n b) e = token n b
    data_same (Own k) e = own k

    pub all_data_same : (vs : Values) → all_data vs ≡ true → Vs P vs vs
    all_data_same ∅ e = no_value
    all_data_same (v ▹ vs) e = let p = and_parts (is_data v) (all_data vs) e in value (data_same v p.0) (all_data_same vs p.1)

    pub fields_data_same : (fs : Fields) → fields_data fs ≡ true → Fs P fs fs
    fields_data_same nofield e = no_entry
    fields_data_same (field k v fs) e = let p = and_parts (is_data v) (fields_data fs) e in entry k (data_same v p.0) (fields_data_same fs p.1)

  mutual
    pub data_equal : {v w : Value} → V P v w → is_data v ≡ true → v ≡ w
    data_equal undefined e = refl
    data_equal null e = refl
    data_equal nan e = refl
    data_equal type_error e = refl
    data_equal script_this e = refl
    data_equal (truth b) e = refl
    data_equal (num z) e = refl
    data_equal (text t) e = refl
    data_equal (items r) e = ap Items (all_data_equal r e)
    data_equal (entries r) e = ap Record (fields_data_equal r e)
    data_equal (function k r u) e = absurd (false≢true e)
    data_equal (token n b) e = refl
    data_equal (own k) e = refl

    pub all_data_equal : {vs ws : Values} → Vs P vs ws → all_data vs ≡ true → vs ≡ ws
    all_data_equal no_value e = refl
    all_data_equal (value {v} {vs = vs} r rs) e = let p = and_parts (is_data v) (all_data vs) e in ap₂ ◌▹◌ (data_equal r p.0) (all_data_equal rs p.1)

    pub fields_data_equal : {fs gs : Fields} → Fs P fs gs → fields_data fs ≡ true → fs ≡ gs
    fields_data_equal no_entry e = refl
    fields_data_equal (entry k {v} {fs = fs} r rs) e = let p = and_parts (is_data v) (fields_data fs) e in ap₂ (field k) (data_equal r p.0) (fields_data_equal rs p.1)

  mutual
    pub is_data_same : {v w : Value} → V P v w → is_data v ≡ is_data w
    is_data_same undefined = refl
    is_data_same null = refl
    is_data_same nan = refl
    is_data_same type_error = refl
    is_data_same script_this = refl
    is_data_same (truth b) = refl
    is_data_same (num z) = refl
    is_data_same (text t) = refl
    is_data_same (items r) = all_is_data_same r
    is_data_same (entries r) = fields_is_data_same r
    is_data_same (function k r u) = refl
    is_data_same (token n b) = refl
    is_data_same (own k) = refl

    pub all_is_data_same : {vs ws : Values} → Vs P vs ws → all_data vs ≡ all_data ws
    all_is_data_same no_value = refl
    all_is_data_same (value r rs) = ap₂ ◌&&◌ (is_data_same r) (all_is_data_same rs)

    pub fields_is_data_same : {fs gs : Fields} → Fs P fs gs → fields_data fs ≡ fields_data gs
    fields_is_data_same no_entry = refl
    fields_is_data_same (entry k r rs) = ap₂ ◌&&◌ (is_data_same r) (fields_is_data_same rs)
