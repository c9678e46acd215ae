-- What reading a code gives. Assumes nothing: these are definitions.
use Rattle.std.specs.Prelude.{◌≡◌, ℕ, Bool, true, false, ◌&&◌, nat_le, Result, MatchResult}
use Rattle.meaning.specs.declared.code.UnknownCode.{UnknownCode}

abbrev pub code_between : ℕ → ℕ → ℕ → Bool
code_between least most n = nat_le least n && nat_le n most

-- what has the code, or the number itself where it is no code
abbrev pub Decodes : {A : Type 0} → (A → ℕ) → (ℕ → Bool) → (ℕ → A) → ℕ → Result A UnknownCode → Type 0
Decodes code is_code coded n r =
    MatchResult r (λ a. (is_code n ≡ true) × (code a ≡ n) × (a ≡ coded n)) (λ e. (is_code n ≡ false) × (e.0 ≡ n))
