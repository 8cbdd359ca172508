-- Where a command leads to, by its typed state.
use Rattle.std.proofs.Common.{◌≡◌, List, [], ◌∷◌, Option, None, Some, refl}
use Rattle.std.specs.Option.{option_or}
use Rattle.imap_command.specs.Calls.{Call, Stage, after, stage, leads_to, next_state, start, no_params, params, empty, messages, attributes, modifiers, whole, refused, select, examine, cond_store, fetch, uid_fetch, num, range, range_from, attr_macro, attr, changed_since}
use Rattle.imap_command.specs.declared.command.State.{State}
use Rattle.imap_command.specs.declared.command.State.TheVariants.{Selected}

-- the state that a command leads to is the one that its typed state has
abbrev LeadsBy : Stage → Option State → Type 0
LeadsBy start found = found ≡ None
LeadsBy no_params found = found ≡ Some Selected
LeadsBy params found = found ≡ Some Selected
LeadsBy empty found = found ≡ None
LeadsBy messages found = found ≡ None
LeadsBy attributes found = found ≡ None
LeadsBy modifiers found = found ≡ None
LeadsBy whole found = Unit {0}
LeadsBy refused found = Unit {0}

leads_after : (s : Stage) (call : Call) (found : Option State) → LeadsBy s found → LeadsBy (after s call) (option_or (leads_to call) found)
leads_after start (select mailbox) found h = refl
leads_after start (examine mailbox) found h = refl
leads_after start fetch found h = h
leads_after start uid_fetch found h = h
leads_after no_params cond_store found h = h
leads_after empty (num n) found h = h
leads_after empty (range first last) found h = h
leads_after empty (range_from first) found h = h
leads_after messages (num n) found h = h
leads_after messages (range first last) found h = h
leads_after messages (range_from first) found h = h
leads_after messages (attr_macro group) found h = h
leads_after messages (attr attribute) found h = h
leads_after attributes (attr attribute) found h = h
leads_after attributes (changed_since n) found h = h
leads_after modifiers (changed_since n) found h = h
leads_after s call found h = tt

leads_by : (calls : List Call) → LeadsBy (stage calls) (next_state calls)
leads_by [] = refl
leads_by (call ∷ before) = leads_after (stage before) call (next_state before) (leads_by before)

pub selects : (calls : List Call) → stage calls ≡ no_params → next_state calls ≡ Some Selected
selects calls e = rw e at (leads_by calls)

pub selects_with_params : (calls : List Call) → stage calls ≡ params → next_state calls ≡ Some Selected
selects_with_params calls e = rw e at (leads_by calls)

pub fetches_attributes : (calls : List Call) → stage calls ≡ attributes → next_state calls ≡ None
fetches_attributes calls e = rw e at (leads_by calls)

pub fetches_modified : (calls : List Call) → stage calls ≡ modifiers → next_state calls ≡ None
fetches_modified calls e = rw e at (leads_by calls)
