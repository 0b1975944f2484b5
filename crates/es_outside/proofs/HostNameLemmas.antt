-- What a host's name is, and what it isn't.
use Rattle.std.proofs.Common.{◌≡◌, ℕ, List, Bool, true, false, ◌&&◌, ◌||◌, not, refl}
use Rattle.es_outside.specs.HostNames.{is_host_name, is_ascii_identifier, is_among, reserved_words, special_names, kept_globals, known_globals}

-- an identifier in ASCII, and none of the words that mean something else
pub record MeansNothingElse (name : List ℕ) : Type 0 where
  pub identifier : is_ascii_identifier name ≡ true
  pub not_reserved : is_among reserved_words name ≡ false
  pub not_special : is_among special_names name ≡ false
  pub not_kept : is_among kept_globals name ≡ false
  pub not_known : is_among known_globals name ≡ false

all_but : (a b c d e : Bool) → (a && not (((b || c) || d) || e)) ≡ true → (a ≡ true) × (b ≡ false) × (c ≡ false) × (d ≡ false) × (e ≡ false)
all_but true false false false false holds = (refl, refl, refl, refl, refl)
all_but a b c d e holds = absurd (cc)

pub host_name-means_nothing_else : (name : List ℕ) → is_host_name name ≡ true → MeansNothingElse name
unfolding is_host_name
host_name-means_nothing_else name may =
    let parts = all_but (is_ascii_identifier name) (is_among reserved_words name) (is_among special_names name) (is_among kept_globals name)
    (is_among known_globals name) may in
    record { identifier = parts.0; not_reserved = parts.1; not_special = parts.2; not_kept = parts.3; not_known = parts.4 }
