-- The content of a cache of loaded files, how a call changes it, and what is read from a text.
use Rattle.std.specs.Prelude.{◌≡◌, ℕ, Bool, false, nat_eq, List, [], ◌∷◌, Option, None, Some, Ok, Err, Result, String, IsSomeAnd, MatchOption, ◌⊎◌, encode_utf8}
use Rattle.std.specs.Borrow.{Bor}
use Rattle.std.specs.Cmp.Lexicographic.{pointwise}
use Rattle.std.specs.Fn.{FnOnceReturnsAt, Once}
use Rattle.std.specs.Global.{Global}
use Rattle.std.specs.Str.{chars}
use Rattle.std.specs.String.{string_bytes}
use Rattle.elsa_cache.specs.declared.parsed_cache.CacheFault.{CacheFault}
use Rattle.elsa_cache.specs.declared.parsed_cache.CacheFault.TheVariants.{Load, Parse, Memory}
use Rattle.elsa_cache.specs.declared.resource_cache.LoadFault.{LoadFault}
use Rattle.elsa_cache.specs.declared.resource_cache.LoadFault.TheVariants as loaded
use Rattle.elsa_maps.specs.FirstWins.{Keeps, value_at}

-- the content of a cache: the loaded texts, and the resources that were made of them, each by its path
pub record Cached (Made : Type 0) : Type 0 where
  pub texts : List (Bor (List ℕ) × Bor (List ℕ))
  pub resources : List (Bor (List ℕ) × Made)

-- whether two paths are equal, as by `==` of `&str`
abbrev pub same_text : Bor (List ℕ) → Bor (List ℕ) → Bool
same_text a b = pointwise nat_eq a.now b.now

module _ {Made : Type 0} where
  -- the text of the path, if it was loaded
  abbrev pub text_at : Cached Made → Bor (List ℕ) → Option (Bor (List ℕ))
  text_at cache path = value_at same_text cache.texts path

  -- what was made of the path's text, if it was
  abbrev pub resource_at : Cached Made → Bor (List ℕ) → Option Made
  resource_at cache path = value_at same_text cache.resources path

  -- each text that was loaded stays, and no path other than this one has changed
  pub record KeepsOthers (old new : Cached Made) (path : Bor (List ℕ)) : Type 0 where
    pub texts : Keeps (text_at old) (text_at new)
    pub other_texts : (q : Bor (List ℕ)) → same_text path q ≡ false → text_at new q ≡ text_at old q
    pub other_resources : (q : Bor (List ℕ)) → same_text path q ≡ false → resource_at new q ≡ resource_at old q

  -- If the path gains a text, it is one that the loader may return.
  abbrev pub GainsText : (List ℕ → Type 0) → Cached Made → Cached Made → Bor (List ℕ) → Type 0
  GainsText loads old new path = (t : Bor (List ℕ)) → text_at old path ≡ None → text_at new path ≡ Some t → loads t.now

  -- `r` is a result that the parser may return for the text of the path
  abbrev pub ParsedTo : {R : Type 0} → (Bor (List ℕ) → R → Type 0) → Cached Made → Bor (List ℕ) → R → Type 0
  ParsedTo parses cache path r = (t : Bor (List ℕ)) × (text_at cache path ≡ Some t) × parses t r

  -- why a path has no value. `Load`: the loader's error; the path had no text, and nothing has changed. `Parse`: the
  -- parser's error for the path's text. `Memory`: if the path has no text, the loader may return one; if it has a text,
  -- the parser may return a value of it
  abbrev pub IsCause : {L P T : Type 0} → (L → Type 0) → (List ℕ → Type 0) → (Bor (List ℕ) → Result T P → Type 0) → Cached Made → Cached Made → Bor (List ℕ) → CacheFault L P → Type 0
  IsCause fails loads parses old new path (Load e) = (new ≡ old) × (text_at old path ≡ None) × fails e
  IsCause fails loads parses old new path (Parse e) = ParsedTo parses new path (Err e)
  IsCause {T = T} fails loads parses old new path Memory = MatchOption (text_at new path) ((b : List ℕ) × loads b) (λ t. (v : T) × parses t (Ok v))

  -- why a path has no resource. `NotFound`: the loader's error, and nothing has changed. `Memory`: if the path has no
  -- text, the loader fails with `Memory` or may return a text
  abbrev pub IsLoadCause : (LoadFault → Type 0) → (List ℕ → Type 0) → Cached Made → Cached Made → Bor (List ℕ) → LoadFault → Type 0
  IsLoadCause fails loads old new path loaded.NotFound = (new ≡ old) × (text_at old path ≡ None) × fails loaded.NotFound
  IsLoadCause fails loads old new path loaded.Memory = text_at new path ≡ None → fails loaded.Memory ⊎ ((b : List ℕ) × loads b)

module _ {F E : Type 0} (call : Once F (Bor (List ℕ) × Unit {0}) (Result (String Global) E)) where
  -- the loader, called at the path, may return a text of these bytes
  abbrev pub LoadsText : F → Bor (List ℕ) → List ℕ → Type 0
  LoadsText load path bytes = (s : String Global) × FnOnceReturnsAt call load path.now (Ok s) × (bytes ≡ string_bytes s)

  -- the loader, called at the path, may return this error
  abbrev pub FailsToLoad : F → Bor (List ℕ) → E → Type 0
  FailsToLoad load path e = FnOnceReturnsAt call load path.now (Err e)

-- the bytes of the first of these characters, or none
abbrev pub encoded_first : List ℕ → List ℕ
encoded_first [] = []
encoded_first (c ∷ cs) = encode_utf8 c

-- the first character of a text, or the empty text
abbrev pub first_character : List ℕ → List ℕ
first_character text = encoded_first (chars text)

-- there is a text, and `first` are the bytes of its first character
abbrev pub BeginsText : Option (Bor (List ℕ)) → List ℕ → Type 0
BeginsText text first = IsSomeAnd text (λ t. first ≡ first_character t.now)
