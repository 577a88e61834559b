mod Bare
mod Came
mod Quotas
