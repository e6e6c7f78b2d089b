-- What is in use before a part of the code, as the Rust code holds it.
use Rattle.array_views.specs.Counts.{count_of}
use Rattle.group_form.specs.Form as form
use Rattle.group_emit.specs.declared.counts.Used.{Used}

abbrev pub used_of : Used → form.Used
used_of u =
    record {
      locals = u.locals;
      privates = u.privates;
      variables = count_of u.variables;
      phases = u.phases;
    }
