-- The status of a line (RFC 3501, section 9: resp-cond-state, resp-cond-auth, resp-cond-bye).
use Rattle.imap_grammar.specs.Rule.{Rule, ◌or◌}
use Rattle.imap_grammar.specs.Tags.{names}
use Rattle.imap_shared.specs.declared.types.statuses.Status.{Status}
use Rattle.imap_shared.specs.declared.types.statuses.Status.TheVariants.{Ok, No, Bad, PreAuth, Bye}

-- resp-cond-state = ("OK" / "NO" / "BAD") SP resp-text
-- resp-cond-auth = ("OK" / "PREAUTH") SP resp-text
-- resp-cond-bye = "BYE" SP resp-text
-- Here the word alone.
unfoldable pub status : Rule Status
status =
    names "OK" Ok or names "NO" No or names "BAD" Bad or names "PREAUTH" PreAuth or names "BYE" Bye

-- ---- no further rules: the alternatives that may start with one byte, as the reader tries them

unfoldable pub ok_word : Rule Status
ok_word = names "OK" Ok

unfoldable pub no_word : Rule Status
no_word = names "NO" No

unfoldable pub bad_or_bye : Rule Status
bad_or_bye = names "BAD" Bad or names "BYE" Bye

unfoldable pub preauth_word : Rule Status
preauth_word = names "PREAUTH" PreAuth
